-- Flag parts narrow a state at a condition. The state that is left holds of each machine for which the row and its parts hold.
use Rattle.std.proofs.Common.{◌≡◌, ℕ, Bool, true, cond, List, [], ◌∷◌, Option, Some, None, IsTrue, ℤ, pos, refl, sym, ap, subst, arith}
use Rattle.std.specs.Prelude.{◌+ℤ◌, ◌↔◌, IsSomeAnd}
use Rattle.std.specs.List.{AllByRecursion}
use Rattle.std.proofs.lemmas.Int.{ints}
use Rattle.std.proofs.lemmas.List.Elements.{All-head, All-tail}
use Rattle.cert_flags.specs.Parts.{IsFlagPart, IsShortPart}
use Rattle.intervals.specs.Domain.{Entry}
use Rattle.linear_limits.specs.declared.limiting.SideOfZero.TheVariants.{Below, NotBelow}
use Rattle.loop_bounds.specs.Effect.{whole}
use Rattle.loop_bounds.specs.Linear.{IsLinear, LinearView, value}
use Rattle.loop_bounds.specs.declared.linear.Term.{Term}
use Rattle.z80_alu.specs.Flags.{flags_of}
use Rattle.z80_decode.specs.declared.kinds.Condition.{Condition}
use Rattle.z80_decode.specs.declared.kinds.Condition.TheVariants as conditions
use Rattle.z80_draft.specs.Arithmetic.{holds}
use Rattle.z80_draft.specs.Registers.{IsRegs}
use Rattle.abs_state.specs.CutLaws.{variable_lies}
use Rattle.abs_state.specs.Holds.{Holds}
use Rattle.abs_state.specs.Seen.{Seen}
use Rattle.abs_state.specs.Variables.{range_of, value_in}
use Rattle.abs_state.specs.declared.cell.KeptCell.{KeptCell}
use Rattle.abs_state.specs.declared.state.AbsState.{AbsState}
use Rattle.abs_state.proofs.TightenHolds.{tightened_holds}
use Rattle.flag_letters.specs.declared.letter.Letter.{Letter}
use Rattle.flag_letters.specs.declared.letter.Letter.TheVariants as letters
use Rattle.flag_letters.specs.declared.part.FlagPart.{FlagPart}
use Rattle.flag_parts.proofs.CarryLemmas.{carry_known}
use Rattle.flag_parts.proofs.ExcludingLemmas.{not_zero_holds}
use Rattle.flag_parts.proofs.Held.{limited_holds}
use Rattle.flag_parts.proofs.NarrowingLemmas.{as_said}
use Rattle.flag_parts.specs.Carry.{known_carry}
use Rattle.flag_parts.specs.Excluding.{is_none}
use Rattle.flag_parts.specs.Narrowing.{narrowed, narrowed_by_part, narrowed_if_said, said, zero_by}
use Rattle.flag_parts.specs.Parts.{AreSeen, HoldsPart, IsSetAt, flag_of}
use Rattle.refined_step.proofs.Assembled.{TellsCarry}
use Rattle.refined_step.proofs.Flags.{outcome_met}
use Rattle.refined_step.specs.Conditionals.{NarrowsSoundly, met}
use Rattle.check_laws.proofs.Facts.{goes_through, is_linear}

-- ---- linears

abbrev HasLinear : FlagPart → Type 0
HasLinear part = IsLinear part.linear

-- the linears of flag parts in form
pub parts_linear : (slots : ℕ) (parts : List FlagPart) → AllByRecursion (IsFlagPart slots) parts → AllByRecursion IsShortPart parts → AllByRecursion HasLinear parts
parts_linear slots [] h k = tt
parts_linear slots (part ∷ parts) h k = (is_linear slots part.linear h.0 k.0, parts_linear slots parts h.1 k.1)

-- ---- narrowing

constant_none : (z rest : ℤ) → rest ≡ pos 0 → (z +ℤ rest) ≡ pos 0 → z ≡ pos 0
constant_none z rest e h = omega (arith, ints, e, h)

module _ (cells : List KeptCell) (entry : Entry) (m : Seen) (i : IsRegs m.regs) where
  abbrev Left : Option AbsState → Type 0
  Left o = IsSomeAnd o (λ t. Holds t cells entry m)

  zero_left : (linear : LinearView) → IsLinear linear → value (whole (value_in m)) linear ≡ pos 0 → (s : AbsState) → Holds s cells entry m → (ts : List Term) → linear.terms ≡ ts → Left (zero_by ts linear s)
  zero_left linear is zero s h (t ∷ ts) e = tightened_holds cells entry m i linear is zero s h
  zero_left linear is zero s h [] e =
      let none : value (whole (value_in m)) (record linear { terms = [] }) ≡ pos 0 = subst (λ (us : List Term). value (whole (value_in m)) (record linear { terms = us }) ≡ pos 0) e zero in
      let constant : linear.constant ≡ pos 0 = constant_none linear.constant (pos 0) refl none in
      let test : is_none linear.constant ≡ true = ap is_none constant in
      subst (λ (b : Bool). Left (cond b (Some s) None)) (sym test) h

  -- where a part has a letter and its condition is met
  letter_left : (letter : Letter) (condition : Condition) (linear : LinearView) → IsLinear linear → (IsTrue (flag_of letter (flags_of m.regs.main.f)) ↔ IsSetAt letter (value (whole (value_in m)) linear)) → IsTrue (holds condition (flags_of m.regs.main.f))
      → (s : AbsState) → Holds s cells entry m → Left (narrowed_if_said (said letter condition) linear s)
  letter_left letters.Zero conditions.Zero linear is seen on s h = zero_left linear is (as_said letters.Zero conditions.Zero (flags_of m.regs.main.f) (value (whole (value_in m)) linear) _ refl seen on) s h linear.terms refl
  letter_left letters.Zero conditions.NotZero linear is seen on s h = not_zero_holds cells entry m i s h linear (as_said letters.Zero conditions.NotZero (flags_of m.regs.main.f) (value (whole (value_in m)) linear) _ refl seen on)
  letter_left letters.ZeroIfBelow conditions.Zero linear is seen on s h = limited_holds cells entry m i Below linear is (as_said letters.ZeroIfBelow conditions.Zero (flags_of m.regs.main.f) (value (whole (value_in m)) linear) _ refl seen on) s h
  letter_left letters.ZeroIfBelow conditions.NotZero linear is seen on s h = limited_holds cells entry m i NotBelow linear is (as_said letters.ZeroIfBelow conditions.NotZero (flags_of m.regs.main.f) (value (whole (value_in m)) linear) _ refl seen on) s h
  letter_left letters.CarryIfBelow conditions.Carry linear is seen on s h = limited_holds cells entry m i Below linear is (as_said letters.CarryIfBelow conditions.Carry (flags_of m.regs.main.f) (value (whole (value_in m)) linear) _ refl seen on) s h
  letter_left letters.CarryIfBelow conditions.NotCarry linear is seen on s h = limited_holds cells entry m i NotBelow linear is (as_said letters.CarryIfBelow conditions.NotCarry (flags_of m.regs.main.f) (value (whole (value_in m)) linear) _ refl seen on) s h
  letter_left letters.SignIfBelow conditions.Minus linear is seen on s h = limited_holds cells entry m i Below linear is (as_said letters.SignIfBelow conditions.Minus (flags_of m.regs.main.f) (value (whole (value_in m)) linear) _ refl seen on) s h
  letter_left letters.SignIfBelow conditions.Plus linear is seen on s h = limited_holds cells entry m i NotBelow linear is (as_said letters.SignIfBelow conditions.Plus (flags_of m.regs.main.f) (value (whole (value_in m)) linear) _ refl seen on) s h
  letter_left _ _ linear is seen on s h = h

  parts_left : (condition : Condition) → IsTrue (holds condition (flags_of m.regs.main.f)) → (parts : List FlagPart) → AllByRecursion HasLinear parts → AreSeen parts m → (s : AbsState) → Holds s cells entry m → Left (narrowed condition parts s)
  parts_left condition on [] linear seen s h = h
  parts_left condition on (part ∷ parts) linear seen s h =
      let Is : FlagPart → Type 0 = λ p. HoldsPart p (flags_of m.regs.main.f) (value_in m) in
      goes_through (narrowed_by_part condition part s) (narrowed condition parts) (λ t. Holds t cells entry m) (λ t. Holds t cells entry m)
      (letter_left part.letter condition part.linear linear.0 (All-head Is part parts seen) on s h)
      (λ t held. parts_left condition on parts linear.1 (All-tail Is part parts seen) t held)

-- parts in form narrow soundly
pub narrows : (condition : Condition) (parts : List FlagPart) → AllByRecursion HasLinear parts → (s : AbsState) → NarrowsSoundly condition parts s
narrows condition parts linear s taken cells entry m i h seen e =
    parts_left cells entry m i (met condition taken) (outcome_met condition (flags_of m.regs.main.f) taken e) parts linear seen s h

-- ---- the carry

-- the carry that is known is that of each machine
pub tells_carry : (parts : List FlagPart) (s : AbsState) → TellsCarry (known_carry (range_of s) parts) parts s
tells_carry parts s cells entry m i h seen = carry_known (range_of s) (flags_of m.regs.main.f) (value_in m) (variable_lies s cells entry m i h) parts seen
