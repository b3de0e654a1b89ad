-- A return leaves its procedure in at most one state, which the row determines.
use Rattle.std.proofs.Common.{◌≡◌, ◌-◌, ◌↔◌, ◌&&◌, ◌∙◌, ℕ, zero, suc, if◌then◌else◌, not, Bool, true, false, List, [], ◌∷◌, ◌++◌, length, take, Option, Some, None, IfSome, Result, Ok, Err, slice_get, option_and_then, option_map, refl, sym, subst, ap, inl, inr, arith}
use Rattle.std.specs.List.{Contains}
use Rattle.std.proofs.lemmas.Bool.{cases_Bool}
use Rattle.std.proofs.lemmas.Option.{same_Some}
use Rattle.abs_draft.specs.AfterMove.{after_move}
use Rattle.abs_draft.specs.Ground.{GroundView}
use Rattle.abs_draft.specs.Outcomes.{after_moves, before_test, behind_test, known_before, test_of}
use Rattle.abs_draft.specs.declared.draft.AbsDraft.{AbsDraft}
use Rattle.abs_state.specs.Mode.{is_unset}
use Rattle.abs_state.specs.Restricting.{Cut, a_is_below, byte_is, carry_is, condition_is, cut_byte, to_all_but, to_range, with_cut_pair, zero_is}
use Rattle.abs_state.specs.declared.fact.FlagFact.{FlagFact}
use Rattle.abs_state.specs.declared.fact.FlagFact.TheVariants.{Zero, Compared}
use Rattle.abs_state.specs.declared.mode.Mode.{Mode}
use Rattle.abs_state.specs.declared.mode.Mode.TheVariants as modes
use Rattle.abs_state.specs.declared.state.AbsState.{AbsState}
use Rattle.z80_actions.specs.Known.{returns_if_taken}
use Rattle.abs_step.specs.Successors.{answer_of, is_empty, next_of, nexts_by, nexts_of, way_on}
use Rattle.abs_step.specs.declared.next.Next.{Next}
use Rattle.abs_step.specs.declared.next.NextKind.TheVariants.{Jump, Exit}
use Rattle.board_fetch.specs.Decoded.{StandsAt}
use Rattle.check_cover.specs.Program.{ground_for, is_inline, is_main}
use Rattle.cert_lines.specs.declared.proc.Proc.{Proc}
use Rattle.cert_flags.specs.Flags.{AreFlags}
use Rattle.cert_flags.specs.declared.flags.RowFlags.{RowFlags}
use Rattle.cert_lines.specs.Row.{row_flags}
use Rattle.cert_lines.specs.Version.{flag_form}
use Rattle.cert_lines.specs.declared.row.Row.{Row}
use Rattle.cert_lines.specs.declared.version.Version.{Version}
use Rattle.cert_lines.specs.declared.version.Version.TheVariants.{One, Two, Three}
use Rattle.cert_form.specs.Contents.{CertificateView}
use Rattle.cert_form.specs.Form.{IsInForm, IsRowOf}
use Rattle.check_ways.proofs.ExitLemmas.{exit_way, leaves_by, no_exit_in, none_in, refined_leaves, stated}
use Rattle.check_ways.proofs.SubjectLemmas.{each_at, row_has_proc, subject_at}
use Rattle.check_ways.specs.Parts.{IsExitAt, IsExitIn, may_leave}
use Rattle.check_ways.specs.Ways.{SubjectView, nexts_from, nexts_in, step_by, step_for}
use Rattle.check_tables.specs.Exits.{exit_by, is_at_end, state_left, state_where}
use Rattle.flag_letters.specs.declared.part.FlagPart.{FlagPart}
use Rattle.flag_parts.specs.Narrowing.{narrowed}
use Rattle.intervals.specs.Range.{single}
use Rattle.intervals.specs.declared.pair.Pair.{Pair}
use Rattle.intervals.specs.declared.reg_pair.RegPair.{RegPair}
use Rattle.intervals.specs.declared.reg_pair.RegPair.TheVariants.{Af, Bc, De, Hl}
use Rattle.linear_effects.specs.Carried.{carried_range}
use Rattle.linear_effects.specs.Effects.{effect_of}
use Rattle.refined_step.proofs.NarrowedStack.{KeepsStack, narrowed_kept}
use Rattle.refined_step.specs.Conditionals.{conditional_nexts, conditional_way, from_narrowed, met}
use Rattle.refined_step.specs.Refined.{refined_answer}
use Rattle.stack_shape.specs.declared.slot.Slot.{Slot}
use Rattle.z80_decode.specs.declared.fault.DecodeFault.{DecodeFault}
use Rattle.z80_decode.specs.declared.instr.Instr.{Instr}
use Rattle.z80_decode.specs.declared.instr.Instr.TheVariants as instrs
use Rattle.z80_decode.specs.declared.kinds.Condition.{Condition}
use Rattle.z80_decode.specs.declared.kinds.Condition.TheVariants as conditions
use Rattle.z80_decode.specs.declared.operands.Register8.{Register8}
use Rattle.z80_decode.specs.declared.operands.Register8.TheVariants as registers
use Rattle.z80_moves.specs.Moves.{moves_of}

-- ---- a condition keeps the shape

abbrev Keeps : AbsState → Option AbsState → Type 0
Keeps s o = IfSome o (λ t. t.shape ≡ s.shape)

pair_keeps : (r : RegPair) (cut : Option Pair) (s : AbsState) → Keeps s (with_cut_pair r cut s)
pair_keeps r None s = tt
pair_keeps r (Some p) s = refl

byte_keeps : (r : Register8) (cut : Cut) (s : AbsState) → Keeps s (cut_byte r cut s)
byte_keeps registers.A cut s = pair_keeps Af _ s
byte_keeps registers.B cut s = pair_keeps Bc _ s
byte_keeps registers.C cut s = pair_keeps Bc _ s
byte_keeps registers.D cut s = pair_keeps De _ s
byte_keeps registers.E cut s = pair_keeps De _ s
byte_keeps registers.H cut s = pair_keeps Hl _ s
byte_keeps registers.L cut s = pair_keeps Hl _ s

byte_is_keeps : (is : Bool) (r : Register8) (n : ℕ) (s : AbsState) → Keeps s (byte_is is r n s)
byte_is_keeps true r n s = byte_keeps r (to_range (single n)) s
byte_is_keeps false r n s = byte_keeps r (to_all_but n) s

none_or : (b : Bool) (o : Option AbsState) (s : AbsState) → Keeps s o → Keeps s (if b then None else o)
none_or true o s h = tt
none_or false o s h = h

below_keeps : (is : Bool) (n : ℕ) (s : AbsState) → Keeps s (a_is_below is n s)
below_keeps true n s = none_or _ _ s (byte_keeps registers.A (to_range (record { low = 0; high = n - 1 })) s)
below_keeps false n s = byte_keeps registers.A (to_range (record { low = n; high = 255 })) s

zero_keeps : (is : Bool) (fact : Option FlagFact) (s : AbsState) → Keeps s (zero_is is fact s)
zero_keeps is None s = refl
zero_keeps is (Some (Zero r)) s = byte_is_keeps is r 0 s
zero_keeps is (Some (Compared n)) s = byte_is_keeps is registers.A n s

carry_keeps : (is : Bool) (fact : Option FlagFact) (s : AbsState) → Keeps s (carry_is is fact s)
carry_keeps is None s = refl
carry_keeps is (Some (Zero r)) s = refl
carry_keeps is (Some (Compared n)) s = below_keeps is n s

condition_keeps : (met : Bool) (cc : Condition) (s : AbsState) → Keeps s (condition_is met cc s)
condition_keeps met conditions.Zero s = zero_keeps met s.flag s
condition_keeps met conditions.NotZero s = zero_keeps (not met) s.flag s
condition_keeps met conditions.Carry s = carry_keeps met s.flag s
condition_keeps met conditions.NotCarry s = carry_keeps (not met) s.flag s
condition_keeps met conditions.ParityOdd s = refl
condition_keeps met conditions.ParityEven s = refl
condition_keeps met conditions.Plus s = refl
condition_keeps met conditions.Minus s = refl

-- ---- the exit among successors

-- these successors have only this exit, or none
abbrev Tells : List Next → Option AbsState → Type 0
Tells nexts only = (exit : AbsState) → IsExitIn nexts exit ↔ (only ≡ Some exit)

none_tells : Tells [] None
none_tells exit = ((λ leaves. absurd (no_exit_in exit leaves)), (λ some. cc))

-- none of the successors is an exit
abbrev Stay : List Next → Type 0
Stay nexts = (n : Next) → Contains nexts n → n.kind ≡ Exit → ⊥

stay_tells : (nexts : List Next) → Stay nexts → Tells nexts None
stay_tells nexts stay exit = ((λ leaves. absurd (stay leaves.next leaves.leads leaves.kind)), (λ some. cc))

-- the first of the successors is an exit, and no other
first_or : (x n : Next) (xs : List Next) → Stay xs → n.kind ≡ Exit → Contains (x ∷ xs) n → x ≡ n
first_or x n xs stay kind (zero, within, is) = is
first_or x n xs stay kind (suc k, within, is) = absurd (stay n (k, omega (arith, within), is) kind)

first_tells : (x : Next) (xs : List Next) → x.kind ≡ Exit → Stay xs → Tells (x ∷ xs) (Some x.state)
first_tells x xs kind stay exit = (
  (λ leaves.
      let same = first_or x leaves.next xs stay leaves.kind leaves.leads in
      ap (λ (n : Next). Some n.state) same ∙ ap (λ (s : AbsState). Some s) (sym leaves.state)),
  (λ some. record { next = x; leads = (0, omega arith, refl); kind = kind; state = sym (same_Some x.state exit some) }),
)

one_tells : (x : Next) → x.kind ≡ Exit → Tells (x ∷ []) (Some x.state)
one_tells x kind = first_tells x [] kind (λ n listed leaves. none_in n listed)

jumps_stay : (o : Option AbsDraft) (f : AbsDraft → Next) → ((k : AbsDraft) → (f k).kind ≡ Jump) → Stay (way_on o f)
jumps_stay o f jumps n listed leaves =
    let way = exit_way o f n listed in
    let wrong : Jump ≡ Exit = sym (jumps way.0) ∙ ap (λ (x : Next). x.kind) way.1 ∙ leaves in
    cc

-- a test leads to an exit in the state that it leaves, and to no other
test_tells : (k : AbsDraft) (o : Option AbsState) (rest : List Next) (f : AbsDraft → Next) → ((t : AbsDraft) → (f t).kind ≡ Exit) →
    ((t : AbsState) → t.shape ≡ [] → (f (record k { state = t })).state ≡ t) → IfSome o (λ t. t.shape ≡ []) → Stay rest →
    Tells (way_on (option_map (λ t. record k { state = t }) o) f ++ rest) o
test_tells k None rest f kind same shape stay = stay_tells rest stay
test_tells k (Some t) rest f kind same shape stay =
    subst (λ (s : AbsState). Tells (f (record k { state = t }) ∷ rest) (Some s)) (same t shape)
    (first_tells (f (record k { state = t })) rest (kind (record k { state = t })) stay)

-- ---- the exit of a return

abbrev at : Mode → AbsState → AbsState
at mode s = record s { mode = mode; shape = [] }

-- one word less on an empty stack
popped : (t : AbsState) → t.shape ≡ [] → record t { shape = take (length t.shape - 1) t.shape } ≡ t
popped t empty = ap (λ (shape : List Slot). record t { shape = take (length shape - 1) shape }) empty ∙ ap (λ (shape : List Slot). record t { shape = shape }) (sym empty)

keeps_empty : (s : AbsState) (o : Option AbsState) → s.shape ≡ [] → Keeps s o → IfSome o (λ t. t.shape ≡ [])
keeps_empty s None empty keeps = tt
keeps_empty s (Some t) empty keeps = keeps ∙ empty

module _ (g : GroundView) (address : ℕ) (inline : Bool) where
  abbrev Answers : Bool → AbsState → Instr → Type 0
  Answers main s instr = Tells (nexts_in (answer_of g address main inline s (Ok instr))) (exit_by main [] s (Ok instr))

  if_answers : (mode : Mode) (s : AbsState) (cc' : Condition) → is_unset mode ≡ false →
      Tells (nexts_of g address false inline (instrs.ReturnIf cc') (at mode s)) (condition_is true cc' (at mode s))
  unfolding after_move after_moves before_test behind_test test_of
  if_answers mode s cc' set =
      let k = known_before address (instrs.ReturnIf cc') (at mode s) in
      test_tells k (condition_is true cc' (at mode s))
      (way_on (option_map (λ t. record k { state = t }) (condition_is false cc' (at mode s))) (λ left. next_of false (instrs.ReturnIf cc') false Jump left))
      (λ taken. next_of false (instrs.ReturnIf cc') true Exit (after_moves g inline (behind_test (moves_of (instrs.ReturnIf cc'))) taken)) (λ t. refl) popped
      (keeps_empty (at mode s) (condition_is true cc' (at mode s)) refl (condition_keeps true cc' (at mode s)))
      (jumps_stay _ (λ left. next_of false (instrs.ReturnIf cc') false Jump left) (λ t. refl))

  return_answers : (main : Bool) (mode : Mode) (s : AbsState) (instr : Instr) → returns_if_taken instr ≡ true → Answers main (at mode s) instr
  unfolding after_move after_moves before_test behind_test test_of
  return_answers main modes.Unset s instrs.Return is = none_tells
  return_answers true modes.Set s instrs.Return is = none_tells
  return_answers true modes.Nmi s instrs.Return is = none_tells
  return_answers false modes.Set s instrs.Return is = one_tells _ refl
  return_answers false modes.Nmi s instrs.Return is = one_tells _ refl
  return_answers main modes.Unset s instrs.ReturnFromInterrupt is = none_tells
  return_answers true modes.Set s instrs.ReturnFromInterrupt is = none_tells
  return_answers true modes.Nmi s instrs.ReturnFromInterrupt is = none_tells
  return_answers false modes.Set s instrs.ReturnFromInterrupt is = one_tells _ refl
  return_answers false modes.Nmi s instrs.ReturnFromInterrupt is = one_tells _ refl
  return_answers main modes.Unset s instrs.ReturnFromNonMaskable is = none_tells
  return_answers true modes.Set s instrs.ReturnFromNonMaskable is = none_tells
  return_answers true modes.Nmi s instrs.ReturnFromNonMaskable is = none_tells
  return_answers false modes.Set s instrs.ReturnFromNonMaskable is = one_tells _ refl
  return_answers false modes.Nmi s instrs.ReturnFromNonMaskable is = one_tells _ refl
  return_answers main modes.Unset s (instrs.ReturnIf cc') is = none_tells
  return_answers true modes.Set s (instrs.ReturnIf cc') is = none_tells
  return_answers true modes.Nmi s (instrs.ReturnIf cc') is = none_tells
  return_answers false modes.Set s (instrs.ReturnIf cc') is = if_answers modes.Set s cc' refl
  return_answers false modes.Nmi s (instrs.ReturnIf cc') is = if_answers modes.Nmi s cc' refl
  return_answers main mode s _ is = absurd (cc)

  no_return : (parts : List FlagPart) (s : AbsState) (instr : Instr) → returns_if_taken instr ≡ false → state_left instr parts s ≡ None
  no_return parts s instrs.Return is = cc
  no_return parts s (instrs.ReturnIf cc') is = cc
  no_return parts s instrs.ReturnFromInterrupt is = cc
  no_return parts s instrs.ReturnFromNonMaskable is = cc
  no_return parts s _ is = refl

  empty_if : (shape : List Slot) → is_empty shape ≡ true → shape ≡ []
  empty_if [] e = refl
  empty_if (slot ∷ slots) e = cc

  both_true : (a b : Bool) → (a && b) ≡ true → (a ≡ true) × (b ≡ true)
  both_true true true e = (refl, refl)
  both_true true false e = cc
  both_true false b e = cc

  either_none : (b : Bool) (o : Option AbsState) → o ≡ None → (if b then o else None) ≡ None
  either_none true o e = e
  either_none false o e = refl

  -- a row that may not leave has no exit
  stays : (main : Bool) (parts : List FlagPart) (s : AbsState) (instr : Instr) → (is_empty s.shape && returns_if_taken instr) ≡ false →
      exit_by main parts s (Ok instr) ≡ None
  stays main parts s instr may =
      elim (cases_Bool (returns_if_taken instr)) [
        | inl returns ↦
            let words : is_empty s.shape ≡ false = first_false (is_empty s.shape) (returns_if_taken instr) may returns in
            ap (λ (b : Bool). if b && (not (is_unset s.mode) && not main) then state_left instr parts s else None) words
        | inr none ↦ either_none (is_at_end main s) (state_left instr parts s) (no_return parts s instr none)
      ]
    where
      first_false : (a b : Bool) → (a && b) ≡ false → b ≡ true → a ≡ false
      first_false false b e y = refl
      first_false true b e y = sym y ∙ e

  -- successors of a row that may not leave
  stays_tells : (main : Bool) (parts : List FlagPart) (s : AbsState) (instr : Instr) (nexts : List Next) →
      ((exit : AbsState) → IsExitIn nexts exit → may_leave s (Ok instr) ≡ true) → (is_empty s.shape && returns_if_taken instr) ≡ false →
      Tells nexts (exit_by main parts s (Ok instr))
  stays_tells main parts s instr nexts leaves never =
      subst (λ (o : Option AbsState). Tells nexts o) (sym (stays main parts s instr never))
      (λ exit. (
        (λ there. absurd (let may : may_leave s (Ok instr) ≡ true = leaves exit there in
            let wrong : true ≡ false = sym may ∙ never in cc)),
        (λ some. cc),
      ))

  answers : (main : Bool) (s : AbsState) (instr : Instr) → Answers main s instr
  answers main s instr =
      elim (cases_Bool (is_empty s.shape && returns_if_taken instr)) [
        | inl may ↦
            let both = both_true (is_empty s.shape) (returns_if_taken instr) may in
            let empty = empty_if s.shape both.0 in
            subst (λ (shape : List Slot). Answers main (record s { shape = shape }) instr) (sym empty) (return_answers main s.mode s instr both.1)
        | inr never ↦
            stays_tells main [] s instr (nexts_in (answer_of g address main inline s (Ok instr)))
            (λ exit there. leaves_by g address main inline s (Ok instr) exit there) never
      ]

  -- ---- the exit by the refined step

  abbrev Refines : Bool → List FlagPart → AbsState → Instr → Type 0
  Refines main parts s instr = Tells (nexts_in (refined_answer g address main inline instr parts s)) (exit_by main parts s (Ok instr))

  -- a return that is not taken goes on
  left_stays : (cc' : Condition) (o : Option AbsState) → Stay (from_narrowed g address false inline (instrs.ReturnIf cc') o false)
  unfolding test_of
  left_stays cc' None n listed leaves = none_in n listed
  left_stays cc' (Some t) n listed leaves =
      jumps_stay _
      (λ left. next_of false (instrs.ReturnIf cc') false Jump left) (λ k. refl) n listed leaves

  -- a return that is taken leaves in the state where its condition is met
  taken_tells : (cc' : Condition) (t : AbsState) (rest : List Next) → Stay rest →
      Tells (nexts_by g address false inline (instrs.ReturnIf cc') (record t { shape = [] }) true ++ rest) (condition_is true cc' (record t { shape = [] }))
  unfolding after_move after_moves before_test behind_test test_of
  taken_tells cc' t rest stay =
      let s : AbsState = record t { shape = [] } in
      let k = known_before address (instrs.ReturnIf cc') s in
      test_tells k (condition_is true cc' s) rest
      (λ taken. next_of false (instrs.ReturnIf cc') true Exit (after_moves g inline (behind_test (moves_of (instrs.ReturnIf cc'))) taken)) (λ t. refl) popped
      (keeps_empty s (condition_is true cc' s) refl (condition_keeps true cc' s)) stay

  no_slots : (shape : List Slot) → length shape ≡ 0 → shape ≡ []
  no_slots [] e = refl
  no_slots (slot ∷ slots) e = absurd (omega (arith, e))

  narrowed_tells : (cc' : Condition) (s : AbsState) (o : Option AbsState) (rest : List Next) → s.shape ≡ [] → IfSome o (KeepsStack s) → Stay rest →
      Tells (from_narrowed g address false inline (instrs.ReturnIf cc') o true ++ rest) (option_and_then (condition_is true cc') o)
  narrowed_tells cc' s None rest empty kept stay = stay_tells rest stay
  narrowed_tells cc' s (Some t) rest empty kept stay =
      let none : t.shape ≡ [] = no_slots t.shape (kept.long ∙ ap (λ (shape : List Slot). length shape) empty) in
      subst (λ (shape : List Slot).
      Tells (nexts_by g address false inline (instrs.ReturnIf cc') (record t { shape = shape }) true ++ rest) (condition_is true cc' (record t { shape = shape })))
      (sym none) (taken_tells cc' t rest stay)

  if_refines : (parts : List FlagPart) (s : AbsState) (cc' : Condition) → s.shape ≡ [] →
      Tells (conditional_nexts g address false inline (instrs.ReturnIf cc') cc' parts s) (state_where cc' parts s)
  if_refines parts s cc' empty =
      narrowed_tells cc' s (narrowed cc' parts s) (conditional_way g address false inline (instrs.ReturnIf cc') cc' parts s false) empty
      (narrowed_kept cc' parts s) (left_stays cc' (narrowed (met cc' false) parts s))

  return_refines : (main : Bool) (parts : List FlagPart) (mode : Mode) (s : AbsState) (instr : Instr) → returns_if_taken instr ≡ true →
      Refines main parts (at mode s) instr
  unfolding effect_of carried_range
  return_refines main parts mode s instrs.Return is = return_answers main mode s instrs.Return is
  return_refines main parts mode s instrs.ReturnFromInterrupt is = return_answers main mode s instrs.ReturnFromInterrupt is
  return_refines main parts mode s instrs.ReturnFromNonMaskable is = return_answers main mode s instrs.ReturnFromNonMaskable is
  return_refines main parts modes.Unset s (instrs.ReturnIf cc') is = none_tells
  return_refines true parts modes.Set s (instrs.ReturnIf cc') is = none_tells
  return_refines true parts modes.Nmi s (instrs.ReturnIf cc') is = none_tells
  return_refines false parts modes.Set s (instrs.ReturnIf cc') is = if_refines parts (at modes.Set s) cc' refl
  return_refines false parts modes.Nmi s (instrs.ReturnIf cc') is = if_refines parts (at modes.Nmi s) cc' refl
  return_refines main parts mode s _ is = absurd (cc)

  refines : (main : Bool) (parts : List FlagPart) (s : AbsState) (instr : Instr) → Refines main parts s instr
  refines main parts s instr =
      elim (cases_Bool (is_empty s.shape && returns_if_taken instr)) [
        | inl may ↦
            let both = both_true (is_empty s.shape) (returns_if_taken instr) may in
            let empty = empty_if s.shape both.0 in
            subst (λ (shape : List Slot). Refines main parts (record s { shape = shape }) instr) (sym empty)
            (return_refines main parts s.mode s instr both.1)
        | inr never ↦
            stays_tells main parts s instr (nexts_in (refined_answer g address main inline instr parts s))
            (refined_leaves g address main inline instr parts s) never
      ]

-- ---- the exit by version

-- flag parts are of version 3 alone
abbrev SuitParts : Version → List FlagPart → Type 0
SuitParts One parts = parts ≡ []
SuitParts Two parts = parts ≡ []
SuitParts Three parts = Unit {0}

flags_suit : (version : Version) (slots : ℕ) (flags : RowFlags) → AreFlags (flag_form version) slots flags → SuitParts version flags.parts
flags_suit One slots flags are = are.1
flags_suit Two slots flags are = are.1
flags_suit Three slots flags are = tt

-- the parts of a row of a certificate in form
parts_in_form : (cert : CertificateView) (number : ℕ) (row : Row) → IsInForm cert → slice_get cert.rows number ≡ Some row → SuitParts cert.version row.parts
parts_in_form cert number row form at =
    let of = each_at (IsRowOf cert.version (length cert.procs) (length cert.cells)) cert.rows number row form.certificate.rows.each at in
    flags_suit cert.version (length row.state.shape) (row_flags row) of.form.flags

-- a row has the exit that its instruction determines, and no other
subject_tells : (s : SubjectView) → SuitParts s.cert.version s.row.parts →
    Tells (nexts_from s) (exit_by (is_main s.row.proc) s.row.parts s.row.state s.decoded)
subject_tells s suits = by s.decoded
  where
    by_version : (version : Version) (instr : Instr) → SuitParts version s.row.parts →
        Tells (nexts_in (step_by version s instr)) (exit_by (is_main s.row.proc) s.row.parts s.row.state (Ok instr))
    by_version One instr none =
        subst (λ (ps : List FlagPart). Tells (nexts_in (step_by One s instr)) (exit_by (is_main s.row.proc) ps s.row.state (Ok instr))) (sym none)
        (answers (ground_for s.rom s.cert) s.row.address (is_inline s.cert s.row.address) (is_main s.row.proc) s.row.state instr)
    by_version Two instr none =
        subst (λ (ps : List FlagPart). Tells (nexts_in (step_by Two s instr)) (exit_by (is_main s.row.proc) ps s.row.state (Ok instr))) (sym none)
        (answers (ground_for s.rom s.cert) s.row.address (is_inline s.cert s.row.address) (is_main s.row.proc) s.row.state instr)
    by_version Three instr any =
        refines (ground_for s.rom s.cert) s.row.address (is_inline s.cert s.row.address) (is_main s.row.proc) s.row.parts s.row.state instr

    by : (decoded : Result Instr DecodeFault) → Tells (nexts_in (step_for s decoded)) (exit_by (is_main s.row.proc) s.row.parts s.row.state decoded)
    by (Err fault) = none_tells
    by (Ok instr) = by_version s.cert.version instr suits

-- the same for a row of a certificate in form
pub numbered_tells : (s : SubjectView) (cert : CertificateView) (number : ℕ) → IsInForm cert → s.cert ≡ cert → slice_get cert.rows number ≡ Some s.row →
    Tells (nexts_from s) (exit_by (is_main s.row.proc) s.row.parts s.row.state s.decoded)
numbered_tells s cert number form same at =
    subject_tells s (subst (λ (c : CertificateView). SuitParts c.version s.row.parts) (sym same) (parts_in_form cert number s.row form at))

-- ---- the exit of a row by its number

abbrev pub Stands : List ℕ → Row → Type 0
Stands rom row = (instr : Instr) × StandsAt rom row.address (Ok instr)

-- the row determines each of its exits
told : (rom : List ℕ) (cert : CertificateView) (number : ℕ) (row : Row) (exit : AbsState) → IsInForm cert → slice_get cert.rows number ≡ Some row →
    (leaves : IsExitAt rom cert number exit) → exit_by (is_main row.proc) row.parts row.state leaves.subject.decoded ≡ Some exit
told rom cert number row exit form has leaves =
    let s = leaves.subject in
    subst (λ (r : Row). exit_by (is_main r.proc) r.parts r.state s.decoded ≡ Some exit) (stated rom cert number row s has leaves.is).0
    ((numbered_tells s cert number form leaves.is.same.1 leaves.is.at exit).0 leaves.leaves)

-- what the row determines is an exit of it
leaves_in : (rom : List ℕ) (cert : CertificateView) (number : ℕ) (row : Row) (proc : Proc) (decoded : Result Instr DecodeFault) (exit : AbsState) → IsInForm cert →
    slice_get cert.rows number ≡ Some row → slice_get cert.procs row.proc ≡ Some proc → StandsAt rom row.address decoded →
    exit_by (is_main row.proc) row.parts row.state decoded ≡ Some exit → IsExitAt rom cert number exit
leaves_in rom cert number row proc decoded exit form has procedure stands some = record {
  subject = record { rom = rom; cert = cert; row = row; proc = proc; decoded = decoded };
  is = record { is_subject = subject_at rom cert number row proc decoded has procedure stands; same = (refl, refl); at = has };
  leaves = (numbered_tells (record { rom = rom; cert = cert; row = row; proc = proc; decoded = decoded }) cert number form refl has exit).1 some;
}

-- a state in which a row leaves, by its instruction
left_by : (rom : List ℕ) (cert : CertificateView) (number : ℕ) (row : Row) (proc : Proc) (only : Option AbsState) (decoded : Result Instr DecodeFault) (exit : AbsState) →
    IsInForm cert → slice_get cert.rows number ≡ Some row → slice_get cert.procs row.proc ≡ Some proc → StandsAt rom row.address decoded →
    ((d : Result Instr DecodeFault) → StandsAt rom row.address d → only ≡ exit_by (is_main row.proc) row.parts row.state d) → only ≡ Some exit →
    IsExitAt rom cert number exit
left_by rom cert number row proc only decoded exit form has procedure stands is some =
    leaves_in rom cert number row proc decoded exit form has procedure stands (sym (is decoded stands) ∙ some)

-- the same, if an instruction stands there
left_in : (rom : List ℕ) (cert : CertificateView) (number : ℕ) (row : Row) (proc : Proc) (only : Option AbsState) (exit : AbsState) → IsInForm cert →
    slice_get cert.rows number ≡ Some row → slice_get cert.procs row.proc ≡ Some proc →
    ((decoded : Result Instr DecodeFault) → StandsAt rom row.address decoded → only ≡ exit_by (is_main row.proc) row.parts row.state decoded) →
    IfSome only (λ (s : AbsState). Stands rom row) → only ≡ Some exit → IsExitAt rom cert number exit
left_in rom cert number row proc only exit form has procedure is stands some =
    let stood : Stands rom row = subst (λ (o : Option AbsState). IfSome o (λ (s : AbsState). Stands rom row)) some stands in
    left_by rom cert number row proc only (Ok stood.0) exit form has procedure stood.1 is some

only_exit : (rom : List ℕ) (cert : CertificateView) (number : ℕ) (row : Row) (proc : Proc) (only : Option AbsState) → IsInForm cert → slice_get cert.rows number ≡ Some row →
    slice_get cert.procs row.proc ≡ Some proc →
    ((decoded : Result Instr DecodeFault) → StandsAt rom row.address decoded → only ≡ exit_by (is_main row.proc) row.parts row.state decoded) →
    IfSome only (λ (s : AbsState). Stands rom row) → (exit : AbsState) → IsExitAt rom cert number exit ↔ (only ≡ Some exit)
only_exit rom cert number row proc only form has procedure is stands exit = (
  (λ leaves.
      is leaves.subject.decoded (stated rom cert number row leaves.subject has leaves.is).1.stands ∙ told rom cert number row exit form has leaves),
  (λ some. left_in rom cert number row proc only exit form has procedure is stands some),
)

-- the same in a certificate in form, where the procedure of the row exists
pub only_in_form : (rom : List ℕ) (cert : CertificateView) (number : ℕ) (row : Row) (only : Option AbsState) → IsInForm cert → slice_get cert.rows number ≡ Some row →
    ((decoded : Result Instr DecodeFault) → StandsAt rom row.address decoded → only ≡ exit_by (is_main row.proc) row.parts row.state decoded) →
    IfSome only (λ (s : AbsState). Stands rom row) → (exit : AbsState) → IsExitAt rom cert number exit ↔ (only ≡ Some exit)
only_in_form rom cert number row only form has is stands exit = by (slice_get cert.procs row.proc) refl
  where
    by : (proc : Option Proc) → slice_get cert.procs row.proc ≡ proc → IsExitAt rom cert number exit ↔ (only ≡ Some exit)
    by None none = absurd (row_has_proc cert form number row has none)
    by (Some proc) procedure = only_exit rom cert number row proc only form has procedure is stands exit

-- the exit of a row of a certificate in form, by its instruction
pub left_in_form : (rom : List ℕ) (cert : CertificateView) (number : ℕ) (row : Row) (decoded : Result Instr DecodeFault) (exit : AbsState) → IsInForm cert →
    slice_get cert.rows number ≡ Some row → StandsAt rom row.address decoded → exit_by (is_main row.proc) row.parts row.state decoded ≡ Some exit →
    IsExitAt rom cert number exit
left_in_form rom cert number row decoded exit form has stands some = by (slice_get cert.procs row.proc) refl
  where
    by : (proc : Option Proc) → slice_get cert.procs row.proc ≡ proc → IsExitAt rom cert number exit
    by None none = absurd (row_has_proc cert form number row has none)
    by (Some proc) procedure = leaves_in rom cert number row proc decoded exit form has procedure stands some
