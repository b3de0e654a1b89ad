-- The operations on bytes have bytes as values.
use Rattle.std.proofs.Common.{ℕ, ◌+◌, ◌-◌, ◌%◌, ◌^◌, ◌<◌, Bool, true, ltb, refl, arith}
use Rattle.std.proofs.lemmas.Bool.{agree_below, agree_below_at, cond_both, ltb-true}
use Rattle.z80_alu.specs.declared.flags.Flags.{Flags}
use Rattle.z80_alu.specs.declared.shift.Shift.{Shift}
use Rattle.z80_alu.specs.declared.shift.Shift.TheVariants.{Rlc, Rrc, Rl, Rr, Sla, Sra, Srl}
use Rattle.z80_alu.specs.Flags.{has_bit}
use Rattle.z80_alu.specs.Shift.{shifted}
use Rattle.z80_alu.specs.Digits.{decimal_correction, decimal_adjusted}
use Rattle.z80_alu.specs.Bits.{bit_set, bit_reset}
use Rattle.z80_alu.proofs.BitTests.{from_bool_le}

pub shifted-lt : (shift : Shift) (value : ℕ) (carry : Bool) → value < 256 → shifted shift value carry < 256
unfolding shifted
shifted-lt Rlc value carry h = omega arith
shifted-lt Rrc value carry h = omega arith
shifted-lt Rl value carry h = omega (arith, from_bool_le carry)
shifted-lt Rr value carry h = omega (arith, from_bool_le carry)
shifted-lt Sla value carry h = omega arith
shifted-lt Sra value carry h = omega arith
shifted-lt Srl value carry h = omega arith

pub decimal_adjusted-lt : (a : ℕ) (f : Flags) → decimal_adjusted a f < 256
unfolding decimal_adjusted
decimal_adjusted-lt a f =
    cond_both f.subtract ((256 + a - decimal_correction a f) % 256) ((a + decimal_correction a f) % 256) (λ n. n < 256) (λ e. omega arith) (λ e. omega arith)

set_fits : ℕ → Bool
set_fits bit = agree_below (λ n. ltb (bit_set bit n) 256) (λ _. true) 256

pub bit_set-lt : (bit value : ℕ) → bit < 8 → value < 256 → bit_set bit value < 256
unfolding bit_set set_fits
bit_set-lt bit value below h =
    ltb-true (bit_set bit value) 256 (agree_below_at (λ n. ltb (bit_set bit n) 256) (λ _. true) 256 value (agree_below_at set_fits (λ _. true) 8 bit refl below) h)

pub bit_reset-lt : (bit value : ℕ) → value < 256 → bit_reset bit value < 256
unfolding bit_reset
bit_reset-lt bit value h = cond_both (has_bit value bit) (value - 2 ^ bit) value (λ n. n < 256) (λ e. omega arith) (λ e. h)
