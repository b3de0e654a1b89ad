-- A flag fact and its flag parts, for one machine.
use Rattle.std.proofs.Common.{◌≡◌, ℕ, Bool, eqb, ltb, [], ◌∷◌, All, Some, refl, sym, subst, arith}
use Rattle.std.specs.Prelude.{IsTrue, ◌↔◌, ℤ, pos, ◌+ℤ◌, ◌*ℤ◌, ◌-ℤ◌, ◌<ℤ◌}
use Rattle.std.proofs.lemmas.Bool.Decides.{nat_tests}
use Rattle.std.proofs.lemmas.Int.{ints}
use Rattle.std.proofs.lemmas.List.Elements.{All-cons, All-head, All-nil, All-tail}
use Rattle.z80_alu.specs.Flags.{flags_of}
use Rattle.z80_decode.specs.declared.operands.Register8.{Register8}
use Rattle.z80_decode.specs.declared.operands.Register8.TheVariants as registers
use Rattle.abs_state.specs.Fact.{HoldsFact, byte_in}
use Rattle.abs_state.specs.Seen.{Seen}
use Rattle.abs_state.specs.Variables.{value_in}
use Rattle.abs_state.specs.declared.fact.FlagFact.{FlagFact}
use Rattle.abs_state.specs.declared.fact.FlagFact.TheVariants.{Zero, Compared}
use Rattle.cert_flags.specs.FactParts.{part_of_variable, parts_of_fact, register_variable}
use Rattle.flag_letters.specs.declared.letter.Letter.TheVariants as letters
use Rattle.flag_letters.specs.declared.part.FlagPart.{FlagPart}
use Rattle.flag_parts.specs.Parts.{AreSeen, HoldsPart}
use Rattle.loop_bounds.specs.declared.variable.Variable.TheVariants as variables

-- the value of a constant and a variable
abbrev sum_of : ℤ → ℕ → ℤ
sum_of c n = c +ℤ (pos 1 *ℤ pos n +ℤ pos 0)

zero_says : (b : Bool) (n : ℕ) → (b ≡ eqb n 0) ↔ (IsTrue b ↔ (sum_of (pos 0) n ≡ pos 0))
zero_says b n = grind (arith, ints, nat_tests)

equal_says : (b : Bool) (n k : ℕ) → (b ≡ eqb n k) ↔ (IsTrue b ↔ (sum_of (pos 0 -ℤ pos k) n ≡ pos 0))
equal_says b n k = grind (arith, ints, nat_tests)

below_says : (b : Bool) (n k : ℕ) → (b ≡ ltb n k) ↔ (IsTrue b ↔ (sum_of (pos 0 -ℤ pos k) n <ℤ pos 0))
below_says b n k = grind (arith, ints, nat_tests)

module _ (m : Seen) where
  abbrev Says : FlagPart → Type 0
  Says part = HoldsPart part (flags_of m.regs.main.f) (value_in m)

  one : (p : FlagPart) → Says p ↔ All Says (p ∷ [])
  one p = (λ h. All-cons Says p [] h (All-nil Says), λ h. All-head Says p [] h)

  two : (p q : FlagPart) → (Says p × Says q) ↔ All Says (p ∷ q ∷ [])
  two p q = (
    λ h. All-cons Says p (q ∷ []) h.0 ((one q).0 h.1),
    λ h. (All-head Says p (q ∷ []) h, (one q).1 (All-tail Says p (q ∷ []) h)),
  )

  -- the variable of a register has its byte
  byte_is : (r : Register8) → value_in m (register_variable r) ≡ byte_in r m.regs
  byte_is registers.A = refl
  byte_is registers.B = refl
  byte_is registers.C = refl
  byte_is registers.D = refl
  byte_is registers.E = refl
  byte_is registers.H = refl
  byte_is registers.L = refl

  zero_is_its_part : (r : Register8) → HoldsFact (Some (Zero r)) m.regs ↔ AreSeen (parts_of_fact (Zero r)) m
  zero_is_its_part r =
      let zero = (flags_of m.regs.main.f).zero in
      let says : (zero ≡ eqb (byte_in r m.regs) 0) ↔ Says (part_of_variable letters.Zero (pos 0) (register_variable r)) =
      subst (λ (n : ℕ). (zero ≡ eqb (byte_in r m.regs) 0) ↔ (IsTrue zero ↔ (sum_of (pos 0) n ≡ pos 0))) (sym (byte_is r)) (zero_says zero (byte_in r m.regs)) in
      let parts = one (part_of_variable letters.Zero (pos 0) (register_variable r)) in
      (λ h. parts.0 (says.0 h), λ h. says.1 (parts.1 h))

  compared_is_its_parts : (k : ℕ) → HoldsFact (Some (Compared k)) m.regs ↔ AreSeen (parts_of_fact (Compared k)) m
  compared_is_its_parts k =
      let flags = flags_of m.regs.main.f in
      let below = below_says flags.carry m.regs.main.a k in
      let equal = equal_says flags.zero m.regs.main.a k in
      let parts = two (part_of_variable letters.CarryIfBelow (pos 0 -ℤ pos k) variables.A) (part_of_variable letters.Zero (pos 0 -ℤ pos k) variables.A) in
      (λ h. parts.0 (below.0 h.0, equal.0 h.1), λ h. let both = parts.1 h in (below.1 both.0, equal.1 both.1))

pub fact_is_its_parts : (fact : FlagFact) (m : Seen) → HoldsFact (Some fact) m.regs ↔ AreSeen (parts_of_fact fact) m
fact_is_its_parts (Zero r) m = zero_is_its_part m r
fact_is_its_parts (Compared k) m = compared_is_its_parts m k
