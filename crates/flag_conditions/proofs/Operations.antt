-- The conditions of operations on A and a byte are true.
use Rattle.std.proofs.Common.{◌≡◌, ◌∙◌, ℕ, ◌+◌, ◌-◌, ◌*◌, ◌%◌, ◌++◌, ◌<◌, Bool, true, false, eqb, ltb, leb, cond, List, [], ◌∷◌, Option, Some, None, refl, sym, ap, subst, arith, bit_and, bit_or, bit_xor}
use Rattle.std.specs.Prelude.{pos, IfSome}
use Rattle.std.specs.Int.{from_bool}
use Rattle.std.specs.Option.{option_to_list}
use Rattle.std.proofs.lemmas.Bool.{agree_below_at, eqb-true}
use Rattle.std.proofs.lemmas.Bool.Decides.{nat_tests}
use Rattle.std.proofs.lemmas.List.Elements.{All-nil, All-cons, All-append}
use Rattle.std.proofs.lemmas.Nat.{le_or_l, le_or_r, xor_comm}
use lib.Bits.{and_self, or_add_and, xor_self, xor_assoc, xor_zero_r}
use Rattle.intervals.specs.Range.{RangeView}
use Rattle.loop_bounds.specs.Effect.{Valuation}
use Rattle.loop_bounds.specs.declared.variable.Variable.{Variable}
use Rattle.loop_bounds.specs.declared.variable.Variable.TheVariants as variables
use Rattle.z80_alu.proofs.FlagsLemmas.{zero_of_compare8}
use Rattle.z80_alu.specs.Add.{sum8, difference8, sum8_flags, difference8_flags}
use Rattle.z80_alu.specs.Logic.{and8_flags, or8_flags, xor8_flags}
use Rattle.z80_alu.specs.declared.flags.Flags.{Flags}
use Rattle.z80_decode.specs.declared.kinds.ArithmeticKind.{ArithmeticKind}
use Rattle.z80_decode.specs.declared.kinds.ArithmeticKind.TheVariants as operations
use Rattle.z80_decode.specs.declared.operands.Operand.{Operand}
use Rattle.z80_decode.specs.declared.operands.Operand.TheVariants as operands
use Rattle.z80_decode.specs.declared.operands.Place.TheVariants as places
use Rattle.z80_decode.specs.declared.operands.Register8.TheVariants as registers
use Rattle.z80_draft.specs.Arithmetic.{value_of, flags_after}
use Rattle.flag_parts.specs.Parts.{HoldsPart, HoldsParts}
use Rattle.flag_letters.specs.declared.part.FlagPart.{FlagPart}
use Rattle.flag_conditions.specs.Linears.{only, left_of_127, above_128, byte_left, byte_excess}
use Rattle.flag_conditions.specs.NewConditions.{zero, zero_if_below, carry_if_below, sign_if_below, no_carry, of_byte, sum_before, difference_before, and_before, xor_before, or_before, arithmetic_before, sum_after, difference_after, arithmetic_after}
use Rattle.flag_conditions.specs.OperandTerm.{operand_term_of, variable_of_other}
use Rattle.flag_conditions.specs.declared.byte_operand.OperandTerm.{OperandTerm}
use Rattle.flag_conditions.specs.declared.byte_operand.OperandTerm.TheVariants.{A, Other, Number}
use Rattle.flag_conditions.specs.declared.byte_operand.OtherRegister.{OtherRegister}
use Rattle.flag_conditions.proofs.Values.{below_at, zero_at, amount, only_value, left_of_127_value, above_128_value, byte_left_value, byte_excess_value, weighted_value}

-- ---- lists of parts

module _ (flags : Flags) (x : Valuation) where
  abbrev Holds : FlagPart → Type 0
  Holds part = HoldsPart part flags x

  pub none_hold : HoldsParts [] flags x
  none_hold = All-nil Holds

  pub more_hold : (p : FlagPart) (ps : List FlagPart) → HoldsPart p flags x → HoldsParts ps flags x → HoldsParts (p ∷ ps) flags x
  more_hold p ps h k = All-cons Holds p ps h k

  pub one_holds : (p : FlagPart) → HoldsPart p flags x → HoldsParts (p ∷ []) flags x
  one_holds p h = more_hold p [] h none_hold

  pub two_hold : (p q : FlagPart) → HoldsPart p flags x → HoldsPart q flags x → HoldsParts (p ∷ q ∷ []) flags x
  two_hold p q h k = more_hold p (q ∷ []) h (one_holds q k)

  -- Z and S of a byte
  pub byte_holds : (v : Variable) → flags.zero ≡ eqb (x v) 0 → flags.sign ≡ leb 128 (x v) → HoldsParts (of_byte v) flags x
  byte_holds v z s =
      two_hold (zero (only v)) (sign_if_below (left_of_127 v))
      (zero_at flags.zero _ (x v) 0 z (only_value v x)) (below_at flags.sign _ 127 (x v) s (left_of_127_value v x))

  -- C is clear
  pub no_carry_holds : flags.carry ≡ false → HoldsPart no_carry flags x
  no_carry_holds e = below_at flags.carry (pos 0) 0 0 e refl

-- ---- facts of bytes

like_eqb : (m n j k : ℕ) → (m ≡ n → j ≡ k) → (j ≡ k → m ≡ n) → eqb m n ≡ eqb j k
like_eqb m n j k f g = grind (arith, nat_tests)

or_none : (a b : ℕ) → a ≡ 0 → b ≡ 0 → bit_or a b ≡ 0
or_none a b e f = ap (λ (n : ℕ). bit_or n b) e ∙ ap (bit_or 0) f

-- a | b is 0 exactly if 256*a + b is
or_by_first : (a b : ℕ) → eqb (bit_or a b) 0 ≡ eqb (256 * a + 1 * b) 0
or_by_first a b =
    like_eqb (bit_or a b) 0 (256 * a + 1 * b) 0 (λ e. omega (arith, le_or_l a b, le_or_r a b))
    (λ e. or_none a b (omega arith) (omega arith))

or_by_last : (a b : ℕ) → eqb (bit_or a b) 0 ≡ eqb (1 * a + 256 * b) 0
or_by_last a b =
    like_eqb (bit_or a b) 0 (1 * a + 256 * b) 0 (λ e. omega (arith, le_or_l a b, le_or_r a b))
    (λ e. or_none a b (omega arith) (omega arith))

or_itself : (a : ℕ) → bit_or a a ≡ a
or_itself a = omega (arith, or_add_and a a, and_self a)

from_xor : (a b : ℕ) → bit_xor a b ≡ 0 → a ≡ b
from_xor a b e =
    sym (xor_zero_r a) ∙ ap (bit_xor a) (sym (xor_self b)) ∙ sym (xor_assoc a b b) ∙ ap (λ (z : ℕ). bit_xor z b) e
    ∙ xor_comm 0 b ∙ xor_zero_r b

xor_zero : (a b : ℕ) → eqb (bit_xor a b) 0 ≡ eqb a b
xor_zero a b = like_eqb (bit_xor a b) 0 a b (from_xor a b) (λ e. ap (λ (z : ℕ). bit_xor z b) e ∙ xor_self b)

high_bit : (a : ℕ) → a < 256 → eqb (bit_and a 128) 0 ≡ ltb a 128
high_bit a h = agree_below_at (λ n. eqb (bit_and n 128) 0) (λ n. ltb n 128) 256 a refl h

-- a sum wrapped exactly if it is below the operand
sum_wraps : (a n s m : ℕ) → a < 256 → n < 256 → s ≡ (a + n + 0) % 256 → m ≡ n → leb 256 (a + n + 0) ≡ ltb s (m + 0)
sum_wraps a n s m h k e f = grind (arith, nat_tests)

-- a difference wrapped exactly if it and the operand are above 255 together
difference_wraps : (a n s m : ℕ) → a < 256 → n < 256 → s ≡ (256 + a - n - 0) % 256 → m ≡ n → ltb a (n + 0) ≡ ltb 255 (s + m + 0)
difference_wraps a n s m h k e f = grind (arith, nat_tests)

-- ---- before

module _ (x : Valuation) (n : ℕ) (noise : ℕ) (a_small : x variables.A < 256) (n_small : n < 256) where
  -- the operand, where it is known, and the carry, where it is known
  abbrev IsOperand : Option OperandTerm → Type 0
  IsOperand y = IfSome y (λ z. amount z x ≡ n)

  abbrev IsCarry : Bool → Option Bool → Type 0
  IsCarry c carry = IfSome carry (λ k. c ≡ k)

  left_holds : (k : Bool) (y : OperandTerm) → amount y x ≡ n → HoldsPart (carry_if_below (byte_left k y)) (sum8_flags (x variables.A) n k noise) x
  unfolding sum8_flags
  left_holds k y e =
      below_at _ _ 255 (x variables.A + amount y x + from_bool k) (ap (λ (m : ℕ). ltb 255 (x variables.A + m + from_bool k)) (sym e))
      (byte_left_value k y x)

  excess_holds : (k : Bool) (y : OperandTerm) → amount y x ≡ n → HoldsPart (carry_if_below (byte_excess k y)) (difference8_flags (x variables.A) n k noise) x
  unfolding difference8_flags
  excess_holds k y e =
      below_at _ _ (x variables.A) (amount y x + from_bool k) (ap (λ (m : ℕ). ltb (x variables.A) (m + from_bool k)) (sym e))
      (byte_excess_value k y x)

  same_operand : (y : OperandTerm) → amount y x ≡ n → eqb (x variables.A) n ≡ eqb (x variables.A) (amount y x + 0)
  same_operand y e = ap (eqb (x variables.A)) (omega arith)

  equal_holds : (y : OperandTerm) → amount y x ≡ n → HoldsPart (zero (byte_excess false y)) (difference8_flags (x variables.A) n false noise) x
  equal_holds y e =
      zero_at _ _ (x variables.A) (amount y x + 0) (zero_of_compare8 _ n noise a_small n_small ∙ same_operand y e)
      (byte_excess_value false y x)

  sum_told : (c : Bool) (y : Option OperandTerm) (carry : Option Bool) → IsOperand y → IsCarry c carry → HoldsParts (sum_before y carry) (sum8_flags (x variables.A) n c noise) x
  sum_told c None carry h k = none_hold _ x
  sum_told c (Some y) None h k = none_hold _ x
  sum_told c (Some y) (Some q) h k = one_holds _ x _
      (subst (λ (b : Bool). HoldsPart (carry_if_below (byte_left q y)) (sum8_flags (x variables.A) n b noise) x) (sym k) (left_holds q y h))

  difference_told : (c : Bool) (y : Option OperandTerm) (carry : Option Bool) → IsOperand y → IsCarry c carry → HoldsParts (difference_before y carry) (difference8_flags (x variables.A) n c noise) x
  difference_told c None carry h k = none_hold _ x
  difference_told c (Some y) None h k = none_hold _ x
  difference_told c (Some y) (Some true) h k =
      subst (λ (b : Bool). HoldsParts (difference_before (Some y) (Some true)) (difference8_flags (x variables.A) n b noise) x) (sym k)
      (one_holds _ x _ (excess_holds true y h))
  difference_told c (Some y) (Some false) h k =
      subst (λ (b : Bool). HoldsParts (difference_before (Some y) (Some false)) (difference8_flags (x variables.A) n b noise) x) (sym k)
      (two_hold _ x _ _ (excess_holds false y h) (equal_holds y h))

  -- AND 80h
  and_with : (m : ℕ) → m ≡ n → HoldsParts (and_before (operands.Immediate m)) (and8_flags (x variables.A) n noise) x
  unfolding and8_flags
  and_with m e =
      let at : (b : Bool) → eqb m 128 ≡ b → HoldsParts (cond b (zero_if_below (above_128 variables.A) ∷ []) []) (and8_flags (x variables.A) n noise) x =
      elim [
        | true ↦ λ t.
            let is : n ≡ 128 = sym e ∙ eqb-true m 128 t in
            one_holds _ x _ (below_at _ _ (x variables.A) 128 (ap (λ (j : ℕ). eqb (bit_and (x variables.A) j) 0) is ∙ high_bit _ a_small) (above_128_value variables.A x))
        | false ↦ λ t. none_hold _ x
      ] in
      at (eqb m 128) refl

  and_told : (s : Operand) (byte : RangeView) → IsOperand (operand_term_of s byte) → HoldsParts (and_before s) (and8_flags (x variables.A) n noise) x
  unfolding and8_flags
  and_told (operands.Immediate m) byte h = and_with m h
  and_told (operands.Place (places.Register registers.A)) byte h =
      let same : bit_and (x variables.A) n ≡ x variables.A = ap (bit_and (x variables.A)) (sym h) ∙ and_self (x variables.A) in
      byte_holds _ x variables.A (ap (λ (j : ℕ). eqb j 0) same) (ap (leb 128) same)
  and_told (operands.Place place) byte h = none_hold _ x

  xor_told : (y : Option OperandTerm) → IsOperand y → HoldsParts (xor_before y) (xor8_flags (x variables.A) n noise) x
  unfolding xor8_flags
  xor_told None h = none_hold _ x
  xor_told (Some y) h = one_holds _ x _
      (zero_at _ _ (x variables.A) (amount y x + 0) (xor_zero _ n ∙ same_operand y h) (byte_excess_value false y x))

  or_told : (y : Option OperandTerm) → IsOperand y → HoldsParts (or_before y) (or8_flags (x variables.A) n noise) x
  unfolding or8_flags
  or_told None h = none_hold _ x
  or_told (Some A) h =
      let same : bit_or (x variables.A) n ≡ x variables.A = ap (bit_or (x variables.A)) (sym h) ∙ or_itself (x variables.A) in
      byte_holds _ x variables.A (ap (λ (j : ℕ). eqb j 0) same) (ap (leb 128) same)
  or_told (Some (Other r)) h =
      let same = ap (λ (j : ℕ). eqb (bit_or (x variables.A) j) 0) (sym h) in
      two_hold _ x _ _
      (zero_at _ _ (256 * x variables.A + 1 * x (variable_of_other r)) 0 (same ∙ or_by_first _ _) (weighted_value 256 1 r x))
      (zero_at _ _ (1 * x variables.A + 256 * x (variable_of_other r)) 0 (same ∙ or_by_last _ _) (weighted_value 1 256 r x))
  or_told (Some (Number m)) h = none_hold _ x

  pub told_before : (kind : ArithmeticKind) (s : Operand) (byte : RangeView) (c : Bool) (carry : Option Bool) → IsOperand (operand_term_of s byte) → IsCarry c carry
      → HoldsParts (arithmetic_before kind s (operand_term_of s byte) carry) (flags_after kind (x variables.A) n c noise) x
  unfolding and8_flags xor8_flags or8_flags
  told_before operations.Add s byte c carry h k = sum_told false (operand_term_of s byte) (Some false) h refl
  told_before operations.Adc s byte c carry h k = sum_told c (operand_term_of s byte) carry h k
  told_before operations.Sub s byte c carry h k = difference_told false (operand_term_of s byte) (Some false) h refl
  told_before operations.Sbc s byte c carry h k = difference_told c (operand_term_of s byte) carry h k
  told_before operations.And s byte c carry h k = more_hold (and8_flags (x variables.A) n noise) x _ _ (no_carry_holds (and8_flags (x variables.A) n noise) x refl) (and_told s byte h)
  told_before operations.Xor s byte c carry h k = more_hold (xor8_flags (x variables.A) n noise) x _ _ (no_carry_holds (xor8_flags (x variables.A) n noise) x refl) (xor_told (operand_term_of s byte) h)
  told_before operations.Or s byte c carry h k = more_hold (or8_flags (x variables.A) n noise) x _ _ (no_carry_holds (or8_flags (x variables.A) n noise) x refl) (or_told (operand_term_of s byte) h)
  told_before operations.Compare s byte c carry h k = difference_told false (operand_term_of s byte) (Some false) h refl

  -- ---- after

  module _ (y : Valuation) (others_stay : (r : OtherRegister) → y (variable_of_other r) ≡ x (variable_of_other r)) where
    -- Z and S of A, and one more part
    with_more : (flags : Flags) (more : List FlagPart) → flags.zero ≡ eqb (y variables.A) 0 → flags.sign ≡ leb 128 (y variables.A) → HoldsParts more flags y
        → HoldsParts (of_byte variables.A ++ more) flags y
    with_more flags more z s h = All-append (λ part. HoldsPart part flags y) (of_byte variables.A) more (byte_holds flags y variables.A z s) h

    sum_wrapped : (t : OperandTerm) (m : ℕ) → amount t y ≡ m → m ≡ n → y variables.A ≡ sum8 (x variables.A) n false → HoldsPart (carry_if_below (byte_excess false t)) (sum8_flags (x variables.A) n false noise) y
    unfolding sum8_flags
    sum_wrapped t m e f a =
        below_at _ _ (y variables.A) (amount t y + 0) (sum_wraps _ n _ (amount t y) a_small n_small a (e ∙ f)) (byte_excess_value false t y)

    difference_wrapped : (t : OperandTerm) (m : ℕ) → amount t y ≡ m → m ≡ n → y variables.A ≡ difference8 (x variables.A) n false → HoldsPart (carry_if_below (byte_left false t)) (difference8_flags (x variables.A) n false noise) y
    unfolding difference8_flags
    difference_wrapped t m e f a =
        below_at _ _ 255 (y variables.A + amount t y + 0) (difference_wraps _ n _ (amount t y) a_small n_small a (e ∙ f)) (byte_left_value false t y)

    sum_told_after : (c : Bool) (t : Option OperandTerm) (carry : Option Bool) → IsOperand t → IsCarry c carry → y variables.A ≡ sum8 (x variables.A) n c
        → HoldsParts (option_to_list (sum_after t carry)) (sum8_flags (x variables.A) n c noise) y
    sum_told_after c None carry h k a = none_hold _ y
    sum_told_after c (Some A) carry h k a = none_hold _ y
    sum_told_after c (Some t) None h k a = none_hold _ y
    sum_told_after c (Some t) (Some true) h k a = none_hold _ y
    sum_told_after c (Some (Other r)) (Some false) h k a =
        subst (λ (b : Bool). HoldsParts (carry_if_below (byte_excess false (Other r)) ∷ []) (sum8_flags (x variables.A) n b noise) y) (sym k)
        (one_holds _ y _ (sum_wrapped (Other r) _ (others_stay r) h (a ∙ ap (sum8 (x variables.A) n) k)))
    sum_told_after c (Some (Number m)) (Some false) h k a =
        subst (λ (b : Bool). HoldsParts (carry_if_below (byte_excess false (Number m)) ∷ []) (sum8_flags (x variables.A) n b noise) y) (sym k)
        (one_holds _ y _ (sum_wrapped (Number m) m refl h (a ∙ ap (sum8 (x variables.A) n) k)))

    difference_told_after : (c : Bool) (t : Option OperandTerm) (carry : Option Bool) → IsOperand t → IsCarry c carry → y variables.A ≡ difference8 (x variables.A) n c
        → HoldsParts (option_to_list (difference_after t carry)) (difference8_flags (x variables.A) n c noise) y
    difference_told_after c None carry h k a = none_hold _ y
    difference_told_after c (Some A) carry h k a = none_hold _ y
    difference_told_after c (Some t) None h k a = none_hold _ y
    difference_told_after c (Some t) (Some true) h k a = none_hold _ y
    difference_told_after c (Some (Other r)) (Some false) h k a =
        subst (λ (b : Bool). HoldsParts (carry_if_below (byte_left false (Other r)) ∷ []) (difference8_flags (x variables.A) n b noise) y) (sym k)
        (one_holds _ y _ (difference_wrapped (Other r) _ (others_stay r) h (a ∙ ap (difference8 (x variables.A) n) k)))
    difference_told_after c (Some (Number m)) (Some false) h k a =
        subst (λ (b : Bool). HoldsParts (carry_if_below (byte_left false (Number m)) ∷ []) (difference8_flags (x variables.A) n b noise) y) (sym k)
        (one_holds _ y _ (difference_wrapped (Number m) m refl h (a ∙ ap (difference8 (x variables.A) n) k)))

    pub told_after : (kind : ArithmeticKind) (t : Option OperandTerm) (c : Bool) (carry : Option Bool) → IsOperand t → IsCarry c carry
        → y variables.A ≡ value_of kind (x variables.A) n c → HoldsParts (arithmetic_after kind t carry) (flags_after kind (x variables.A) n c noise) y
    unfolding sum8_flags difference8_flags and8_flags xor8_flags or8_flags
    told_after operations.Add t c carry h k a =
        with_more _ _ (ap (λ (m : ℕ). eqb m 0) (sym a)) (ap (leb 128) (sym a)) (sum_told_after false t (Some false) h refl a)
    told_after operations.Adc t c carry h k a =
        with_more _ _ (ap (λ (m : ℕ). eqb m 0) (sym a)) (ap (leb 128) (sym a)) (sum_told_after c t carry h k a)
    told_after operations.Sub t c carry h k a =
        with_more _ _ (ap (λ (m : ℕ). eqb m 0) (sym a)) (ap (leb 128) (sym a)) (difference_told_after false t (Some false) h refl a)
    told_after operations.Sbc t c carry h k a =
        with_more _ _ (ap (λ (m : ℕ). eqb m 0) (sym a)) (ap (leb 128) (sym a)) (difference_told_after c t carry h k a)
    told_after operations.And t c carry h k a = byte_holds _ y variables.A (ap (λ (m : ℕ). eqb m 0) (sym a)) (ap (leb 128) (sym a))
    told_after operations.Xor t c carry h k a = byte_holds _ y variables.A (ap (λ (m : ℕ). eqb m 0) (sym a)) (ap (leb 128) (sym a))
    told_after operations.Or t c carry h k a = byte_holds _ y variables.A (ap (λ (m : ℕ). eqb m 0) (sym a)) (ap (leb 128) (sym a))
    told_after operations.Compare t c carry h k a = none_hold _ y
