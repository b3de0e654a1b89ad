-- Carries and overflows of sums and differences of bytes, read from the bits of the operands and of the value.
use Rattle.std.proofs.Common.{◌≡◌, ℕ, suc, ◌+◌, ◌-◌, ◌%◌, ◌<◌, ◌≤◌, not, ◌&&◌, eqb, leb, ltb, bit_and, bit_xor, sym, ap, ◌∙◌, inl, inr, arith, ℤ, pos, negsuc, ◌+ℤ◌, ◌-ℤ◌}
use Rattle.std.specs.Int.{cast_signed, w8}
use Rattle.std.proofs.lemmas.Int.{ints, to_z_pos}
use Rattle.std.proofs.lemmas.Nat.Bits.{bit_at_and, bit_at_xor}
use Rattle.std.proofs.lemmas.Bool.{le-leb, lt-leb, eq-eqb, ne_eqb, cases_lt, cond-false, le-ltb}
use Rattle.std.proofs.lemmas.Bool.Decides.{nat_tests}
use Rattle.z80_alu.specs.Signed.{overflows_byte}
use Rattle.z80_alu.proofs.BitTests.{has_bit-masked}

-- a bit that is 1 exactly from a bound on
pub bit_as_bound : (x m n : ℕ) → (m ≤ n → x ≡ 1) → (n < m → x ≡ 0) → eqb x 1 ≡ leb m n
bit_as_bound x m n above below =
    elim (cases_lt n m) [ inl h ↦ ne_eqb x 1 (λ e. absurd (omega (arith, below h))) ∙ sym (lt-leb m n h) | inr h ↦ eq-eqb x 1 (above h) ∙ sym (le-leb m n h) ]

-- ---- half carries

pub half_carry_of_sum8 : (a b c v : ℕ) → c ≤ 1 → v ≡ (a + b + c) % 256 → not (eqb (bit_and (bit_xor (bit_xor a b) v) 16) 0) ≡ leb 16 (a % 16 + b % 16 + c)
half_carry_of_sum8 a b c v small is =
    rw (has_bit-masked (bit_xor (bit_xor a b) v) 4, bit_at_xor (bit_xor a b) v 4, bit_at_xor a b 4)
    (bit_as_bound _ _ _ (λ h. omega arith) (λ h. omega arith))

pub half_carry_of_difference8 : (a b c v : ℕ) → b < 256 → c ≤ 1 → v ≡ (256 + a - b - c) % 256 → not (eqb (bit_and (bit_xor (bit_xor a b) v) 16) 0) ≡ ltb (a % 16) (b % 16 + c)
half_carry_of_difference8 a b c v k small is =
    rw (has_bit-masked (bit_xor (bit_xor a b) v) 4, bit_at_xor (bit_xor a b) v 4, bit_at_xor a b 4)
    (bit_as_bound _ _ _ (λ h. omega arith) (λ h. omega arith))

-- a difference computed 256 higher is below 256 if it borrows
pub borrow_of_difference8 : (a b c : ℕ) → b < 256 → c ≤ 1 → ltb (256 + a - b - c) 256 ≡ ltb a (b + c)
borrow_of_difference8 a b c k small = grind (arith, nat_tests)

-- ---- overflows, by the signed values

signed_byte : (a : ℕ) → a < 256 → cast_signed w8 a +ℤ pos 128 ≡ pos ((a + 128) % 256)
signed_byte a h =
    elim (cases_lt a 128) [
      | inl low ↦ ap (λ z. z +ℤ pos 128) (to_z_pos w8 a low) ∙ ap pos (omega arith)
      | inr high ↦ ap (λ z. z +ℤ pos 128) (cond-false (ltb a 128) (pos a) (negsuc (256 - suc a)) (le-ltb a 128 high)) ∙ omega (arith, ints)
    ]

overflows_byte_at : (z : ℤ) (m : ℕ) → z +ℤ pos 256 ≡ pos m → overflows_byte z ≡ not (leb 128 m && leb m 383)
overflows_byte_at (pos n) m e =
    let is : m ≡ n + 256 = omega (arith, ints) in
    grind (arith, nat_tests)
overflows_byte_at (negsuc n) m e =
    let is : m + n + 1 ≡ 256 = omega (arith, ints) in
    grind (arith, nat_tests)

signed_sum : (a b c : ℕ) → a < 256 → b < 256 → cast_signed w8 a +ℤ cast_signed w8 b +ℤ pos c +ℤ pos 256 ≡ pos ((a + 128) % 256 + (b + 128) % 256 + c)
signed_sum a b c h k =
    let s = signed_byte a h in
    let t = signed_byte b k in
    omega (arith, ints)

pub overflow_of_sum8 : (a b c v : ℕ) → a < 256 → b < 256 → c ≤ 1 → v ≡ (a + b + c) % 256 →
    not (eqb (bit_and (bit_and (bit_xor a v) (bit_xor b v)) 128) 0) ≡ overflows_byte (cast_signed w8 a +ℤ cast_signed w8 b +ℤ pos c)
overflow_of_sum8 a b c v h k small is =
    rw (has_bit-masked (bit_and (bit_xor a v) (bit_xor b v)) 7, bit_at_and (bit_xor a v) (bit_xor b v) 7, bit_at_xor a v 7, bit_at_xor b v 7)
    (grind (arith, nat_tests) ∙ sym (overflows_byte_at (cast_signed w8 a +ℤ cast_signed w8 b +ℤ pos c) _ (signed_sum a b c h k)))

signed_difference : (a b c : ℕ) → a < 256 → b < 256 → c ≤ 1 → cast_signed w8 a -ℤ cast_signed w8 b -ℤ pos c +ℤ pos 256 ≡ pos (256 + (a + 128) % 256 - (b + 128) % 256 - c)
signed_difference a b c h k small =
    let s = signed_byte a h in
    let t = signed_byte b k in
    omega (arith, ints)

pub overflow_of_difference8 : (a b c v : ℕ) → a < 256 → b < 256 → c ≤ 1 → v ≡ (256 + a - b - c) % 256 →
    not (eqb (bit_and (bit_and (bit_xor a b) (bit_xor a v)) 128) 0) ≡ overflows_byte (cast_signed w8 a -ℤ cast_signed w8 b -ℤ pos c)
overflow_of_difference8 a b c v h k small is =
    rw (has_bit-masked (bit_and (bit_xor a b) (bit_xor a v)) 7, bit_at_and (bit_xor a b) (bit_xor a v) 7, bit_at_xor a b 7, bit_at_xor a v 7)
    (grind (arith, nat_tests) ∙ sym (overflows_byte_at (cast_signed w8 a -ℤ cast_signed w8 b -ℤ pos c) _ (signed_difference a b c h k small)))
