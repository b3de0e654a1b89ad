-- Carries and overflows of sums and differences of words, read from the bits of the operands and of the value.
use Rattle.std.proofs.Common.{◌≡◌, ℕ, suc, ◌+◌, ◌-◌, ◌%◌, ◌<◌, ◌≤◌, not, ◌&&◌, eqb, leb, ltb, bit_and, bit_xor, sym, ap, ◌∙◌, inl, inr, arith, ℤ, pos, negsuc, ◌+ℤ◌, ◌-ℤ◌}
use Rattle.std.specs.Int.{cast_signed, w16}
use Rattle.std.proofs.lemmas.Int.{ints, to_z_pos}
use Rattle.std.proofs.lemmas.Nat.Bits.{bit_at_and, bit_at_xor}
use Rattle.std.proofs.lemmas.Bool.{cases_lt, cond-false, le-ltb}
use Rattle.std.proofs.lemmas.Bool.Decides.{nat_tests}
use Rattle.z80_alu.specs.Signed.{overflows_word}
use Rattle.z80_alu.proofs.BitTests.{has_bit-masked}
use Rattle.z80_alu.proofs.Carries.{bit_as_bound}

-- ---- half carries

pub half_carry_of_sum16 : (a b c v : ℕ) → c ≤ 1 → v ≡ (a + b + c) % 65536 → not (eqb (bit_and (bit_xor (bit_xor a b) v) 4096) 0) ≡ leb 4096 (a % 4096 + b % 4096 + c)
half_carry_of_sum16 a b c v small is =
    rw (has_bit-masked (bit_xor (bit_xor a b) v) 12, bit_at_xor (bit_xor a b) v 12, bit_at_xor a b 12)
    (bit_as_bound _ _ _ (λ h. omega arith) (λ h. omega arith))

pub half_carry_of_plain_sum16 : (a b v : ℕ) → v ≡ (a + b) % 65536 → not (eqb (bit_and (bit_xor (bit_xor a b) v) 4096) 0) ≡ leb 4096 (a % 4096 + b % 4096)
half_carry_of_plain_sum16 a b v is =
    rw (has_bit-masked (bit_xor (bit_xor a b) v) 12, bit_at_xor (bit_xor a b) v 12, bit_at_xor a b 12)
    (bit_as_bound _ _ _ (λ h. omega arith) (λ h. omega arith))

pub half_carry_of_difference16 : (a b c v : ℕ) → b < 65536 → c ≤ 1 → v ≡ (65536 + a - b - c) % 65536 → not (eqb (bit_and (bit_xor (bit_xor a b) v) 4096) 0) ≡ ltb (a % 4096) (b % 4096 + c)
half_carry_of_difference16 a b c v k small is =
    rw (has_bit-masked (bit_xor (bit_xor a b) v) 12, bit_at_xor (bit_xor a b) v 12, bit_at_xor a b 12)
    (bit_as_bound _ _ _ (λ h. omega arith) (λ h. omega arith))

-- a difference computed 65,536 higher is below 65,536 if it borrows
pub borrow_of_difference16 : (a b c : ℕ) → b < 65536 → c ≤ 1 → ltb (65536 + a - b - c) 65536 ≡ ltb a (b + c)
borrow_of_difference16 a b c k small = grind (arith, nat_tests)

-- ---- overflows, by the signed values

signed_word : (a : ℕ) → a < 65536 → cast_signed w16 a +ℤ pos 32768 ≡ pos ((a + 32768) % 65536)
signed_word a h =
    elim (cases_lt a 32768) [
      | inl low ↦ ap (λ z. z +ℤ pos 32768) (to_z_pos w16 a low) ∙ ap pos (omega arith)
      | inr high ↦ ap (λ z. z +ℤ pos 32768) (cond-false (ltb a 32768) (pos a) (negsuc (65536 - suc a)) (le-ltb a 32768 high)) ∙ omega (arith, ints)
    ]

overflows_word_at : (z : ℤ) (m : ℕ) → z +ℤ pos 65536 ≡ pos m → overflows_word z ≡ not (leb 32768 m && leb m 98303)
overflows_word_at (pos n) m e =
    let is : m ≡ n + 65536 = omega (arith, ints) in
    grind (arith, nat_tests)
overflows_word_at (negsuc n) m e =
    let is : m + n + 1 ≡ 65536 = omega (arith, ints) in
    grind (arith, nat_tests)

signed_sum : (a b c : ℕ) → a < 65536 → b < 65536 → cast_signed w16 a +ℤ cast_signed w16 b +ℤ pos c +ℤ pos 65536 ≡ pos ((a + 32768) % 65536 + (b + 32768) % 65536 + c)
signed_sum a b c h k =
    let s = signed_word a h in
    let t = signed_word b k in
    omega (arith, ints)

pub overflow_of_sum16 : (a b c v : ℕ) → a < 65536 → b < 65536 → c ≤ 1 → v ≡ (a + b + c) % 65536 →
    not (eqb (bit_and (bit_and (bit_xor a v) (bit_xor b v)) 32768) 0) ≡ overflows_word (cast_signed w16 a +ℤ cast_signed w16 b +ℤ pos c)
overflow_of_sum16 a b c v h k small is =
    rw (has_bit-masked (bit_and (bit_xor a v) (bit_xor b v)) 15, bit_at_and (bit_xor a v) (bit_xor b v) 15, bit_at_xor a v 15, bit_at_xor b v 15)
    (grind (arith, nat_tests) ∙ sym (overflows_word_at (cast_signed w16 a +ℤ cast_signed w16 b +ℤ pos c) _ (signed_sum a b c h k)))

signed_difference : (a b c : ℕ) → a < 65536 → b < 65536 → c ≤ 1 → cast_signed w16 a -ℤ cast_signed w16 b -ℤ pos c +ℤ pos 65536 ≡ pos (65536 + (a + 32768) % 65536 - (b + 32768) % 65536 - c)
signed_difference a b c h k small =
    let s = signed_word a h in
    let t = signed_word b k in
    omega (arith, ints)

pub overflow_of_difference16 : (a b c v : ℕ) → a < 65536 → b < 65536 → c ≤ 1 → v ≡ (65536 + a - b - c) % 65536 →
    not (eqb (bit_and (bit_and (bit_xor a b) (bit_xor a v)) 32768) 0) ≡ overflows_word (cast_signed w16 a -ℤ cast_signed w16 b -ℤ pos c)
overflow_of_difference16 a b c v h k small is =
    rw (has_bit-masked (bit_and (bit_xor a b) (bit_xor a v)) 15, bit_at_and (bit_xor a b) (bit_xor a v) 15, bit_at_xor a b 15, bit_at_xor a v 15)
    (grind (arith, nat_tests) ∙ sym (overflows_word_at (cast_signed w16 a -ℤ cast_signed w16 b -ℤ pos c) _ (signed_difference a b c h k small)))
