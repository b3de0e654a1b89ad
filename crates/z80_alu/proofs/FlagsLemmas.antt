-- What the crates above need of the flags: a byte F and its flags determine one another, and when an operation sets Z
-- and C.
use Rattle.std.proofs.Common.{◌≡◌, ℕ, ◌<◌, Bool, false, nat_eq, nat_lt, refl, ap, arith, bit_and, bit_or, bit_xor}
use Rattle.std.proofs.lemmas.Bool.Decides.{nat_tests}
use Rattle.z80_alu.specs.declared.flags.Flags.{Flags}
use Rattle.z80_alu.specs.Flags.{flags_byte, flags_of}
use Rattle.z80_alu.specs.Add.{sum8, difference8, sum8_flags, difference8_flags, increment8_flags, decrement8_flags}
use Rattle.z80_alu.specs.Logic.{and8_flags, or8_flags, xor8_flags}
use Rattle.z80_alu.proofs.BitTests.{from_bool_le, bit_7_of_weights, bit_6_of_weights, bit_5_of_weights, bit_4_of_weights, bit_3_of_weights, bit_2_of_weights, bit_1_of_weights, bit_0_of_weights}
use Rattle.z80_alu.proofs.ByteTables.{agrees, agrees_at}

-- ---- a byte and its flags

pub flags_of-flags_byte : (f : Flags) → flags_of (flags_byte f) ≡ f
unfolding flags_of flags_byte
flags_of-flags_byte f = λ i. record {
  sign = bit_7_of_weights f.sign f.zero f.bit5 f.half_carry f.bit3 f.parity_overflow f.subtract f.carry i;
  zero = bit_6_of_weights f.sign f.zero f.bit5 f.half_carry f.bit3 f.parity_overflow f.subtract f.carry i;
  bit5 = bit_5_of_weights f.sign f.zero f.bit5 f.half_carry f.bit3 f.parity_overflow f.subtract f.carry i;
  half_carry = bit_4_of_weights f.sign f.zero f.bit5 f.half_carry f.bit3 f.parity_overflow f.subtract f.carry i;
  bit3 = bit_3_of_weights f.sign f.zero f.bit5 f.half_carry f.bit3 f.parity_overflow f.subtract f.carry i;
  parity_overflow = bit_2_of_weights f.sign f.zero f.bit5 f.half_carry f.bit3 f.parity_overflow f.subtract f.carry i;
  subtract = bit_1_of_weights f.sign f.zero f.bit5 f.half_carry f.bit3 f.parity_overflow f.subtract f.carry i;
  carry = bit_0_of_weights f.sign f.zero f.bit5 f.half_carry f.bit3 f.parity_overflow f.subtract f.carry i;
}

pub flags_byte-flags_of : (byte : ℕ) → byte < 256 → flags_byte (flags_of byte) ≡ byte
unfolding agrees flags_of flags_byte
flags_byte-flags_of byte small = agrees_at (λ n. flags_byte (flags_of n)) (λ n. n) 256 byte refl small

pub flags_byte-lt : (f : Flags) → flags_byte f < 256
unfolding flags_byte
flags_byte-lt f =
    omega (arith, from_bool_le f.sign, from_bool_le f.zero, from_bool_le f.bit5, from_bool_le f.half_carry, from_bool_le f.bit3, from_bool_le f.parity_overflow, from_bool_le f.subtract, from_bool_le f.carry)

-- ---- Z means that the result is 0

pub zero_of_sum8 : (a b : ℕ) (carry : Bool) (noise : ℕ) → (sum8_flags a b carry noise).zero ≡ nat_eq (sum8 a b carry) 0
unfolding sum8_flags
zero_of_sum8 a b carry noise = refl

pub zero_of_difference8 : (a b : ℕ) (carry : Bool) (noise : ℕ) → (difference8_flags a b carry noise).zero ≡ nat_eq (difference8 a b carry) 0
unfolding difference8_flags
zero_of_difference8 a b carry noise = refl

pub zero_of_increment8 : (a f noise : ℕ) → (increment8_flags a f noise).zero ≡ nat_eq (sum8 a 1 false) 0
unfolding increment8_flags sum8_flags
zero_of_increment8 a f noise = refl

pub zero_of_decrement8 : (a f noise : ℕ) → (decrement8_flags a f noise).zero ≡ nat_eq (difference8 a 1 false) 0
unfolding decrement8_flags difference8_flags
zero_of_decrement8 a f noise = refl

pub zero_of_and8 : (a b noise : ℕ) → (and8_flags a b noise).zero ≡ nat_eq (bit_and a b) 0
unfolding and8_flags
zero_of_and8 a b noise = refl

pub zero_of_or8 : (a b noise : ℕ) → (or8_flags a b noise).zero ≡ nat_eq (bit_or a b) 0
unfolding or8_flags
zero_of_or8 a b noise = refl

pub zero_of_xor8 : (a b noise : ℕ) → (xor8_flags a b noise).zero ≡ nat_eq (bit_xor a b) 0
unfolding xor8_flags
zero_of_xor8 a b noise = refl

-- ---- after CP, C means that A is below the operand, and Z that it equals the operand

pub carry_of_compare8 : (a b noise : ℕ) → (difference8_flags a b false noise).carry ≡ nat_lt a b
unfolding difference8_flags
carry_of_compare8 a b noise = ap (nat_lt a) (omega arith)

pub zero_of_compare8 : (a b noise : ℕ) → a < 256 → b < 256 → (difference8_flags a b false noise).zero ≡ nat_eq a b
unfolding difference8_flags
zero_of_compare8 a b noise h k = grind (arith, nat_tests)
