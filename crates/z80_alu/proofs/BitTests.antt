-- One bit of a number, tested by a mask; a byte assembled from its bits.
use Rattle.std.proofs.Common.{◌≡◌, ℕ, zero, suc, ◌+◌, ◌*◌, ◌%◌, ◌^◌, ◌<◌, ◌≤◌, Bool, leb, true, false, not, ◌&&◌, eqb, bit_and, bit_or, refl, ap, zero-mul, arith}
use Rattle.std.specs.Int.{bit_at, from_bool}
use Rattle.std.proofs.lemmas.Nat.Bits.{and_pow, bit_at-lt}
use Rattle.std.proofs.lemmas.Nat.{pow_pos}
use Rattle.std.proofs.lemmas.Bool.{and_parts, eqb-true, ne_eqb}
use Rattle.std.proofs.Math.Bool.{beq}
use Rattle.std.specs.Cmp.{booleans_Decides}
use Rattle.std.proofs.lemmas.Bool.Decides.{nat_tests}
use Rattle.z80_alu.specs.Flags.{has_bit}

-- a bit times its weight is not 0 exactly if the bit is set
weighed : (b w : ℕ) → b < 2 → 0 < w → not (eqb (b * w) 0) ≡ eqb b 1
weighed zero w small heavy = rw (zero-mul w) refl
weighed (suc zero) w small heavy = ap not (ne_eqb (1 * w) 0 (λ e. absurd (omega arith)))
weighed (suc (suc b)) w small heavy = absurd (omega arith)

pub has_bit-masked : (n k : ℕ) → not (eqb (bit_and n (2 ^ k)) 0) ≡ has_bit n k
has_bit-masked n k = rw (and_pow n k) (weighed (bit_at n k) (2 ^ k) (bit_at-lt n k) (pow_pos k))

-- ---- a test of the eight flags at all 256 of their values

both : (Bool → Bool) → Bool
both p = p true && p false

both_at : (p : Bool → Bool) → both p ≡ true → (b : Bool) → p b ≡ true
unfolding both
both_at p h true = (and_parts (p true) (p false) h).0
both_at p h false = (and_parts (p true) (p false) h).1

-- the same, one flag at a time
abbrev Test8 : Type 0
Test8 = Bool → Bool → Bool → Bool → Bool → Bool → Bool → Bool → Bool

passes_always : Test8 → Bool
passes_always t = both (λ s. both (λ z. both (λ y. both (λ h. both (λ x. both (λ p. both (λ n. both (λ c. t s z y h x p n c))))))))

passes_at : (t : Test8) → passes_always t ≡ true → (s z y h x p n c : Bool) → t s z y h x p n c ≡ true
unfolding passes_always
passes_at t all s z y h x p n c = both_at _ (both_at _ (both_at _ (both_at _ (both_at _ (both_at _ (both_at _ (both_at _ all s) z) y) h) x) p) n) c

-- the byte of eight flags, by their weights
abbrev pub weights : (s z y h x p n c : Bool) → ℕ
weights s z y h x p n c =
    128 * from_bool s + 64 * from_bool z + 32 * from_bool y + 16 * from_bool h + 8 * from_bool x + 4 * from_bool p + 2 * from_bool n + from_bool c

-- the byte as the code assembles it
abbrev pub joined_bits : (s z y h x p n c : Bool) → ℕ
joined_bits s z y h x p n c =
    bit_or (bit_or (bit_or (bit_or (bit_or (bit_or (bit_or (from_bool s * 128 % 256) (from_bool z * 64 % 256)) (from_bool y * 32 % 256)) (from_bool h * 16 % 256)) (from_bool x * 8 % 256)) (from_bool p * 4 % 256)) (from_bool n * 2 % 256)) (from_bool c)

byte_matches : Test8
byte_matches s z y h x p n c = eqb (joined_bits s z y h x p n c) (weights s z y h x p n c)

byte_matches_always : passes_always byte_matches ≡ true
unfolding passes_always both byte_matches
byte_matches_always = refl

pub byte_of_bits : (s z y h x p n c : Bool) → joined_bits s z y h x p n c ≡ weights s z y h x p n c
unfolding byte_matches
byte_of_bits s z y h x p n c = eqb-true _ _ (passes_at byte_matches byte_matches_always s z y h x p n c)

-- a bit of that byte is the flag that `pick` takes
bit_is : (k : ℕ) (pick : Test8) → passes_always (λ s z y h x p n c. beq (has_bit (weights s z y h x p n c) k) (pick s z y h x p n c)) ≡ true →
    (s z y h x p n c : Bool) → has_bit (weights s z y h x p n c) k ≡ pick s z y h x p n c
bit_is k pick all s z y h x p n c =
    (booleans_Decides _ _).0 (passes_at (λ s z y h x p n c. beq (has_bit (weights s z y h x p n c) k) (pick s z y h x p n c)) all s z y h x p n c)

pub bit_7_of_weights : (s z y h x p n c : Bool) → has_bit (weights s z y h x p n c) 7 ≡ s
unfolding passes_always both
bit_7_of_weights = bit_is 7 (λ s z y h x p n c. s) refl

pub bit_6_of_weights : (s z y h x p n c : Bool) → has_bit (weights s z y h x p n c) 6 ≡ z
unfolding passes_always both
bit_6_of_weights = bit_is 6 (λ s z y h x p n c. z) refl

pub bit_5_of_weights : (s z y h x p n c : Bool) → has_bit (weights s z y h x p n c) 5 ≡ y
unfolding passes_always both
bit_5_of_weights = bit_is 5 (λ s z y h x p n c. y) refl

pub bit_4_of_weights : (s z y h x p n c : Bool) → has_bit (weights s z y h x p n c) 4 ≡ h
unfolding passes_always both
bit_4_of_weights = bit_is 4 (λ s z y h x p n c. h) refl

pub bit_3_of_weights : (s z y h x p n c : Bool) → has_bit (weights s z y h x p n c) 3 ≡ x
unfolding passes_always both
bit_3_of_weights = bit_is 3 (λ s z y h x p n c. x) refl

pub bit_2_of_weights : (s z y h x p n c : Bool) → has_bit (weights s z y h x p n c) 2 ≡ p
unfolding passes_always both
bit_2_of_weights = bit_is 2 (λ s z y h x p n c. p) refl

pub bit_1_of_weights : (s z y h x p n c : Bool) → has_bit (weights s z y h x p n c) 1 ≡ n
unfolding passes_always both
bit_1_of_weights = bit_is 1 (λ s z y h x p n c. n) refl

pub bit_0_of_weights : (s z y h x p n c : Bool) → has_bit (weights s z y h x p n c) 0 ≡ c
unfolding passes_always both
bit_0_of_weights = bit_is 0 (λ s z y h x p n c. c) refl

-- ---- the sign of a byte, and a boolean as a number

pub sign_of_byte : (n : ℕ) → n < 256 → not (eqb (bit_and n 128) 0) ≡ leb 128 n
sign_of_byte n small = rw (has_bit-masked n 7) (grind (arith, nat_tests))

pub sign_of_word : (n : ℕ) → n < 65536 → not (eqb (bit_and n 32768) 0) ≡ leb 32768 n
sign_of_word n small = rw (has_bit-masked n 15) (grind (arith, nat_tests))

pub from_bool_le : (b : Bool) → from_bool b ≤ 1
from_bool_le true = omega arith
from_bool_le false = omega arith
