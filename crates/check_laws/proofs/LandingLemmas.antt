-- What is covered lands: the only lemmas that look inside covering.
use Rattle.std.proofs.Common.{◌≡◌, ◌≤◌, ◌∙◌, ℕ, true, false, eqb, List, [], length, get_or, Option, Some, None, Contains, refl, sym, subst, arith}
use Rattle.std.specs.Prelude.{IfSome, IsSome, IsSomeAnd, option_map}
use Rattle.intervals.specs.Domain.{Entry}
use Rattle.intervals.specs.declared.pair.Pair.{Pair}
use Rattle.cert_fields.specs.Linear.{IsSum, HasSlotsBelow}
use Rattle.z80_alu.specs.declared.regs.Regs.{Regs}
use Rattle.z80_decode.specs.declared.operands.Register8.{Register8}
use Rattle.z80_decode.specs.declared.operands.Register8.TheVariants.{A, B, C, D, E, H, L}
use Rattle.z80_draft.specs.Registers.{IsRegs}
use Rattle.abs_state.specs.Covers.{CoversState}
use Rattle.abs_state.specs.CutLaws.{byte_known}
use Rattle.abs_state.specs.Fact.{byte_in}
use Rattle.abs_state.specs.Holds.{Holds}
use Rattle.abs_state.specs.Mode.{covers_mode}
use Rattle.abs_state.specs.Restricting.{byte_is, to_range}
use Rattle.abs_state.specs.Pairs.{HoldsPairs}
use Rattle.abs_state.specs.Seen.{Seen}
use Rattle.abs_state.specs.declared.cell.KeptCell.{KeptCell}
use Rattle.abs_state.specs.declared.mode.Mode.TheVariants.{Nmi}
use Rattle.abs_state.specs.declared.state.AbsState.{AbsState}
use Rattle.abs_state.proofs.CoverLemmas.{state_wider}
use Rattle.abs_step.proofs.GoesStack.{as_many}
use Rattle.intervals.specs.Range.{single}
use Rattle.check_cover.specs.Arrival.{ArrivalView}
use Rattle.check_cover.specs.Covering.{Covered, CoveredBy, CoversArrival, SomeCovers, tightened_by}
use Rattle.check_cover.specs.Program.{IsRowAt, split_at}
use Rattle.cert_lines.specs.declared.row.Row.{Row}
use Rattle.cert_form.specs.Contents.{CertificateView}
use Rattle.cert_form.specs.Form.{IsInForm}
use Rattle.check_laws.specs.Comes.{Comes}
use Rattle.check_laws.specs.RowHolds.{AreZeroAt, IsHeld, RowHolds}
use Rattle.cert_flags.specs.Parts.{IsFlagPart}
use Rattle.flag_parts.specs.Parts.{AreSeen}
use Rattle.check_laws.proofs.Facts.{all_tightened, are_linear, known_seen, known_zero}
use Rattle.check_laws.proofs.InForm.{each_or, parts_in_form, row_in_form}
use Rattle.check_laws.proofs.Overlapping.{cut_mode, states_overlap}

pub byte_small : (r : Register8) (regs : Regs) → IsRegs regs → byte_in r regs ≤ 255
byte_small A regs i = let h = i.main.a in omega arith
byte_small B regs i = let h = i.main.b in omega arith
byte_small C regs i = let h = i.main.c in omega arith
byte_small D regs i = let h = i.main.d in omega arith
byte_small E regs i = let h = i.main.e in omega arith
byte_small H regs i = let h = i.main.h in omega arith
byte_small L regs i = let h = i.main.l in omega arith

covered_left : (row : AbsState) (cells : List KeptCell) (entry : Entry) (now : Seen) (o : Option AbsState) → IfSome o (CoversState row) → IsSomeAnd o (λ t. Holds t cells entry now) → Holds row cells entry now
covered_left row cells entry now None c h = absurd h
covered_left row cells entry now (Some t) c h = state_wider row t cells entry now c h

itself : (n : ℕ) → true ≡ eqb n n
itself n = search arith

module _ (cert : CertificateView) (form : IsInForm cert) (a : ArrivalView) (entry : Entry) (now : Seen) (numbers : IsRegs now.regs) (c : Comes a cert.cells now) where
  holds_row : (state : AbsState) (row : Row) → Contains cert.rows row → Holds state cert.cells entry now → CoversArrival a state row → RowHolds row cert.cells entry now
  holds_row state row listed h covers =
      let f = row_in_form cert form row listed in
      let slots : length row.state.shape ≡ length now.words = covers.suits.slots ∙ sym (as_many state.shape entry now.words h.shape) in
      let facts : AreZeroAt now row.facts = λ k d p.
      known_zero cert.cells a now c (get_or row.facts k d)
      (subst (λ (n : ℕ). HasSlotsBelow n (get_or row.facts k d)) slots (each_or (IsSum (length row.state.shape)) row.facts k d f.of.form.facts p).within_shape)
      (covers.facts k d p) in
      let parts : AreSeen row.parts now = λ k d p.
      known_seen cert.cells a now c state entry numbers h (get_or row.parts k d)
      (subst (λ (n : ℕ). HasSlotsBelow n (get_or row.parts k d).linear) slots (each_or (IsFlagPart (length row.state.shape)) row.parts k d (parts_in_form cert.version row f.of.form) p).within_shape)
      (covers.parts k d p) in
      let left = all_tightened cert.cells entry now numbers row.facts (are_linear (length row.state.shape) row.facts f.of.form.facts f.short.facts.short) facts state h in
      record { state = covered_left row.state cert.cells entry now (tightened_by row.facts state) covers.tightened left; facts = facts; parts = parts }

  lands_at : (state cut : AbsState) → Holds state cert.cells entry now → Holds cut cert.cells entry now → cut.mode ≡ state.mode → SomeCovers cert a cut → IsHeld cert a.proc a.address state entry now
  lands_at state cut h k mode some =
      let holds = holds_row cut some.row some.at.listed k some.covers in
      record {
        row = some.row;
        at = some.at;
        holds = holds;
        mode = subst (λ m. covers_mode some.row.state.mode m ≡ true) mode some.covers.suits.mode;
        overlaps = states_overlap some.row.state state cert.cells entry entry now holds.state h;
      }

  by_value : (state : AbsState) (o : Option AbsState) → Holds state cert.cells entry now → IfSome o (SomeCovers cert a) → IsSomeAnd o (λ t. Holds t cert.cells entry now) → IfSome o (λ t. t.mode ≡ state.mode)
      → IsHeld cert a.proc a.address state entry now
  by_value state None h some held mode = absurd held
  by_value state (Some cut) h some held mode = lands_at state cut h held mode some

  by_split : (state : AbsState) (split : Option Register8) → Holds state cert.cells entry now → CoveredBy cert a state split → IsHeld cert a.proc a.address state entry now
  by_split state None h some = lands_at state state h h refl some
  by_split state (Some register) h some =
      let value = byte_in register now.regs in
      by_value state (byte_is true register value state) h (some value (byte_small register now.regs numbers))
      (byte_known state cert.cells entry now numbers h true register value (itself value))
      (cut_mode register (to_range (single value)) state)

  -- a covered state that arrives and holds lands at a row
  pub lands : (state : AbsState) → Holds state cert.cells entry now → Covered cert a state → IsHeld cert a.proc a.address state entry now
  lands state h covered = by_split state (split_at cert a.proc a.address) h covered

-- ---- addresses have rows

some_alike : (o : Option Pair) (f g : Pair → AbsState) → IsSome (option_map f o) → IsSome (option_map g o)
some_alike None f g h = h
some_alike (Some p) f g h = refl

-- what a cut of a register leaves depends on the pairs alone
cut_alike : (r : Register8) (value : ℕ) (s t : AbsState) → s.pairs ≡ t.pairs → IsSome (byte_is true r value s) → IsSome (byte_is true r value t)
cut_alike r value s t e h = subst (λ pairs. IsSome (byte_is true r value (record t { pairs = pairs }))) e (by r h)
  where
    by : (r : Register8) → IsSome (byte_is true r value s) → IsSome (byte_is true r value (record t { pairs = s.pairs }))
    by A h = some_alike _ _ _ h
    by B h = some_alike _ _ _ h
    by C h = some_alike _ _ _ h
    by D h = some_alike _ _ _ h
    by E h = some_alike _ _ _ h
    by H h = some_alike _ _ _ h
    by L h = some_alike _ _ _ h

is_some : (o : Option AbsState) (P : AbsState → Type 0) → IsSomeAnd o P → IsSome o
is_some None P h = absurd h
is_some (Some x) P h = refl

-- a state of which only the pairs are known
bare : AbsState → AbsState
bare s = record { mode = Nmi; armed = 0; pairs = s.pairs; flag = None; shape = [] }

bare_seen : Regs → Seen
bare_seen regs = record { regs = regs; words = []; cells = []; enable = false; line = false; latched = false }

bare_holds : (s : AbsState) (entry : Entry) (regs : Regs) → HoldsPairs s.pairs entry regs → Holds (bare s) [] entry (bare_seen regs)
unfolding bare bare_seen
bare_holds s entry regs h = record { mode = tt; cells_hold = tt; pairs = h; flag = tt; shape = tt }

module _ (cert : CertificateView) (a : ArrivalView) (state : AbsState) (entry : Entry) (regs : Regs) (numbers : IsRegs regs) (h : HoldsPairs state.pairs entry regs) where
  of_some : SomeCovers cert a state → (row : Row) × IsRowAt cert a.proc a.address row
  of_some some = (some.row, some.at)

  of_value : (o : Option AbsState) → IsSome o → IfSome o (SomeCovers cert a) → (row : Row) × IsRowAt cert a.proc a.address row
  of_value None some covers = absurd (cc)
  of_value (Some cut) some covers = (covers.row, covers.at)

  value_left : (register : Register8) → IsSome (byte_is true register (byte_in register regs) state)
  unfolding bare bare_seen
  value_left register =
      cut_alike register (byte_in register regs) (bare state) state refl
      (is_some _ _ (byte_known (bare state) [] entry (bare_seen regs) numbers (bare_holds state entry regs h) true register (byte_in register regs) (itself _)))

  of_split : (split : Option Register8) → CoveredBy cert a state split → (row : Row) × IsRowAt cert a.proc a.address row
  of_split None covered = of_some covered
  of_split (Some register) covered = of_value (byte_is true register (byte_in register regs) state) (value_left register) (covered (byte_in register regs) (byte_small register regs numbers))

  -- an address at which a state is covered has a row, if its pairs hold of any registers
  pub has_row : Covered cert a state → (row : Row) × IsRowAt cert a.proc a.address row
  has_row covered = of_split (split_at cert a.proc a.address) covered
