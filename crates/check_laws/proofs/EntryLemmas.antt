-- Main code, the NMI routine and callees begin at rows.
use Rattle.std.proofs.Common.{◌≡◌, ◌<◌, ℕ, List, [], length, Some, refl, sym, subst, arith}
use Rattle.intervals.specs.Domain.{Entry}
use Rattle.intervals.specs.Pair.{HoldsPair, full_pair}
use Rattle.intervals.specs.declared.pair.Pair.{Pair}
use Rattle.intervals.specs.declared.reg_pair.RegPair.{RegPair}
use Rattle.intervals.specs.declared.reg_pair.RegPair.TheVariants as pairs
use Rattle.loop_bounds.specs.Effect.{unchanged}
use Rattle.loop_bounds.specs.declared.effect.Effect.{Effect}
use Rattle.loop_bounds.specs.declared.variable.Variable.TheVariants.{Slot}
use Rattle.stack_shape.specs.Shape.{HoldsShape}
use Rattle.z80_alu.specs.declared.regs.Regs.{Regs}
use Rattle.z80_draft.specs.Registers.{IsRegs}
use Rattle.abs_state.specs.Cell.{HoldsCells}
use Rattle.abs_state.specs.Entries.{callee_entry, main_entry, nmi_entry}
use Rattle.abs_state.specs.Holds.{Holds, IsQuiet}
use Rattle.abs_state.specs.Pairs.{HoldsPairs, entry_of, full_pairs, own_pairs, word_in}
use Rattle.abs_state.specs.Seen.{Seen}
use Rattle.abs_state.specs.declared.cell.KeptCell.{KeptCell}
use Rattle.abs_state.specs.declared.pairs.Pairs.{Pairs}
use Rattle.abs_state.specs.declared.state.AbsState.{AbsState}
use Rattle.abs_step.specs.declared.next.Next.{Next}
use Rattle.check_cover.specs.Arrival.{entry_refinement, first_arrival}
use Rattle.check_cover.specs.Covering.{Covered, CoversMain, CoversNmi}
use Rattle.check_cover.specs.declared.program.Callee.{Callee}
use Rattle.cert_form.specs.Contents.{CertificateView}
use Rattle.cert_lines.specs.declared.version.Version.{Version}
use Rattle.cert_lines.specs.declared.version.Version.TheVariants.{One, Two, Three}
use Rattle.cert_form.specs.Form.{IsInForm}
use Rattle.check_steps.specs.Told.{refinement_by}
use Rattle.refined_step.specs.Told.{untold}
use Rattle.check_ways.specs.Ways.{SubjectView, arrival_at_entry as entry_arrival}
use Rattle.check_laws.specs.Comes.{CameBy, CameRefinedIfSome, Comes, Steps, entered}
use Rattle.check_laws.specs.RowHolds.{IsHeld}
use Rattle.check_laws.proofs.LandingLemmas.{lands}

-- ---- pairs that are only known to hold their values

full_held : (entry : Entry) (n : ℕ) → n < 65536 → HoldsPair full_pair entry n
full_held entry n h = record { word = (omega arith, omega (arith, h)); high = (omega arith, omega (arith, h)); low = (omega arith, omega arith); origin = tt }

pub word_small : (r : RegPair) (regs : Regs) → IsRegs regs → word_in r regs < 65536
word_small pairs.Af regs i = let h = i.main.a in let l = i.main.f in omega arith
word_small pairs.Bc regs i = let h = i.main.b in let l = i.main.c in omega arith
word_small pairs.De regs i = let h = i.main.d in let l = i.main.e in omega arith
word_small pairs.Hl regs i = let h = i.main.h in let l = i.main.l in omega arith
word_small pairs.Ix regs i = i.ix
word_small pairs.Iy regs i = i.iy
word_small pairs.AlternateAf regs i = let h = i.alternate.a in let l = i.alternate.f in omega arith
word_small pairs.AlternateBc regs i = let h = i.alternate.b in let l = i.alternate.c in omega arith
word_small pairs.AlternateDe regs i = let h = i.alternate.d in let l = i.alternate.e in omega arith
word_small pairs.AlternateHl regs i = let h = i.alternate.h in let l = i.alternate.l in omega arith

all_full : (entry : Entry) (regs : Regs) → IsRegs regs → HoldsPairs full_pairs entry regs
all_full entry regs i = record {
  af = full_held entry _ (word_small pairs.Af regs i);
  bc = full_held entry _ (word_small pairs.Bc regs i);
  de = full_held entry _ (word_small pairs.De regs i);
  hl = full_held entry _ (word_small pairs.Hl regs i);
  ix = full_held entry _ (word_small pairs.Ix regs i);
  iy = full_held entry _ (word_small pairs.Iy regs i);
  alternate_af = full_held entry _ (word_small pairs.AlternateAf regs i);
  alternate_bc = full_held entry _ (word_small pairs.AlternateBc regs i);
  alternate_de = full_held entry _ (word_small pairs.AlternateDe regs i);
  alternate_hl = full_held entry _ (word_small pairs.AlternateHl regs i);
}

own_held : (p : Pair) (r : RegPair) (entry : Entry) (regs : Regs) → HoldsPair p entry (word_in r regs) → HoldsPair (record p { origin = Some r }) (entry_of regs) (word_in r regs)
own_held p r entry regs h = record { word = h.word; high = h.high; low = h.low; origin = refl }

pub all_own : (p : Pairs) (entry : Entry) (regs : Regs) → HoldsPairs p entry regs → HoldsPairs (own_pairs p) (entry_of regs) regs
all_own p entry regs h = record {
  af = own_held p.af pairs.Af entry regs h.af;
  bc = own_held p.bc pairs.Bc entry regs h.bc;
  de = own_held p.de pairs.De entry regs h.de;
  hl = own_held p.hl pairs.Hl entry regs h.hl;
  ix = own_held p.ix pairs.Ix entry regs h.ix;
  iy = own_held p.iy pairs.Iy entry regs h.iy;
  alternate_af = own_held p.alternate_af pairs.AlternateAf entry regs h.alternate_af;
  alternate_bc = own_held p.alternate_bc pairs.AlternateBc entry regs h.alternate_bc;
  alternate_de = own_held p.alternate_de pairs.AlternateDe entry regs h.alternate_de;
  alternate_hl = own_held p.alternate_hl pairs.AlternateHl entry regs h.alternate_hl;
}

no_shape : (entry : Entry) (words : List ℕ) → words ≡ [] → HoldsShape [] entry words
no_shape entry words e = subst (λ (ws : List ℕ). HoldsShape [] entry ws) (sym e) tt

-- ---- no row before

pub own_values : (m : Seen) → CameBy unchanged m m
own_values m (Slot number part) there = refl
own_values m v there = refl

-- an entry tells nothing
entry_refined : (version : Version) (m : Seen) → CameRefinedIfSome (entry_refinement version) m m
entry_refined One m = tt
entry_refined Two m = tt
entry_refined Three m = record {
  moved = own_values m;
  becomes = tt;
  told_before = λ k d p. absurd (omega arith);
  told_after = λ k d p. absurd (omega arith);
  registers = λ k d p. absurd (omega arith);
}

first_comes : (version : Version) (proc address : ℕ) (state : AbsState) (cells : List KeptCell) (entry : Entry) (m : Seen) → IsRegs m.regs → Holds state cells entry m → Comes (first_arrival version proc address state) cells m
first_comes version proc address state cells entry m i h =
    record { entry = entry; before = m; numbers = i; held = h; facts = λ k d p. absurd (omega arith); came = own_values m; refined = entry_refined version m }

main_holds : (cells : List KeptCell) (entry : Entry) (m : Seen) → IsRegs m.regs → IsQuiet m.enable m.line m.latched → m.words ≡ [] → Holds main_entry cells entry m
main_holds cells entry m i quiet none = record { mode = quiet; cells_hold = tt; pairs = all_full entry m.regs i; flag = tt; shape = no_shape entry m.words none }

pub main_begins : (cert : CertificateView) (entry : Entry) (m : Seen) → IsInForm cert → IsRegs m.regs → IsQuiet m.enable m.line m.latched → m.words ≡ [] → CoversMain cert → IsHeld cert 0 0 main_entry entry m
main_begins cert entry m form i quiet none covers =
    let h = main_holds cert.cells entry m i quiet none in
    lands cert form (first_arrival cert.version 0 0 main_entry) entry m i (first_comes cert.version 0 0 main_entry cert.cells entry m i h) main_entry h covers

nmi_holds : (cells : List KeptCell) (m : Seen) → IsRegs m.regs → m.words ≡ [] → HoldsCells (length cells) cells m.cells → Holds (nmi_entry (length cells)) cells (entry_of m.regs) m
nmi_holds cells m i none held = record { mode = tt; cells_hold = held; pairs = all_own full_pairs (entry_of m.regs) m.regs (all_full (entry_of m.regs) m.regs i); flag = tt; shape = no_shape (entry_of m.regs) m.words none }

pub nmi_begins : (cert : CertificateView) (m : Seen) → IsInForm cert → IsRegs m.regs → m.words ≡ [] → HoldsCells (length cert.cells) cert.cells m.cells → CoversNmi cert → IsHeld cert 1 102 (nmi_entry (length cert.cells)) (entry_of m.regs) m
nmi_begins cert m form i none held covers =
    let state = nmi_entry (length cert.cells) in
    let h = nmi_holds cert.cells m i none held in
    lands cert form (first_arrival cert.version 1 102 state) (entry_of m.regs) m i (first_comes cert.version 1 102 state cert.cells (entry_of m.regs) m i h) state h covers

-- ---- callees

callee_holds : (s : AbsState) (cells : List KeptCell) (entry : Entry) (m : Seen) → Holds s cells entry m → Holds (callee_entry s) cells (entry_of m.regs) (entered m)
callee_holds s cells entry m h = record { mode = h.mode; cells_hold = h.cells_hold; pairs = all_own s.pairs entry m.regs h.pairs; flag = tt; shape = tt }

-- a callee sees the registers that its caller saw
pub entered_values : (effect : Effect) (before now : Seen) → CameBy effect before now → CameBy effect before (entered now)
entered_values effect before now came (Slot number part) there = absurd (omega (arith, there))
entered_values effect before now came v there = came v tt

-- nothing is known of an arrival but where its values come from
pub untold_came : (version : Version) (moved : Effect) (before now : Seen) → CameBy moved before now → CameRefinedIfSome (refinement_by version untold moved) before now
untold_came One moved before now came = tt
untold_came Two moved before now came = tt
untold_came Three moved before now came = record {
  moved = came;
  becomes = tt;
  told_before = λ k d p. absurd (omega arith);
  told_after = λ k d p. absurd (omega arith);
  registers = λ k d p. absurd (omega arith);
}

pub callee_begins : (s : SubjectView) (next : Next) (callee : Callee) (entry : Entry) (before now : Seen) → IsInForm s.cert → Steps s next entry before now → Covered s.cert (entry_arrival s next callee) (callee_entry next.state)
    → IsHeld s.cert callee.number next.address (callee_entry next.state) (entry_of now.regs) (entered now)
callee_begins s next callee entry before now form x covers =
    lands s.cert form (entry_arrival s next callee) (entry_of now.regs) (entered now) x.numbers_now
    (record {
      entry = entry;
      before = before;
      numbers = x.numbers;
      held = x.held.state;
      facts = x.held.facts;
      came = entered_values next.effect before now x.came;
      refined = untold_came s.cert.version next.moved before (entered now) (entered_values next.moved before now x.moved);
    })
    (callee_entry next.state) (callee_holds next.state s.cert.cells entry now x.holds) covers
