-- The results of logic, shifts and rotates of bytes lie in the known ranges.
use Rattle.std.proofs.Common.{◌≡◌, ℕ, ◌+◌, ◌*◌, ◌/◌, ◌%◌, ◌<◌, ◌≤◌, Bool, true, eqb, refl, arith}
use Rattle.std.proofs.lemmas.Bool.{agree_below, agree_below_at, eqb-true}
use Rattle.z80_alu.specs.Bits.{bit_set, bit_reset}
use Rattle.z80_alu.specs.Shift.{shifted}
use Rattle.z80_alu.proofs.RangeLemmas.{shifted-lt, bit_set-lt, bit_reset-lt}
use Rattle.z80_decode.specs.Kinds.{bit}
use Rattle.z80_decode.specs.declared.kinds.AccumulatorRotate.{AccumulatorRotate}
use Rattle.z80_decode.specs.declared.kinds.AccumulatorRotate.TheVariants as rotates
use Rattle.z80_decode.specs.declared.kinds.Bit.{Bit}
use Rattle.z80_decode.specs.declared.kinds.Bit.TheVariants as bits
use Rattle.z80_decode.specs.declared.kinds.ShiftKind.{ShiftKind}
use Rattle.z80_decode.specs.declared.kinds.ShiftKind.TheVariants as shifts
use Rattle.z80_draft.specs.Arithmetic.{shift_named, rotation_named}
use Rattle.intervals.specs.Logic.{of_single, rotation_left, rotation_right, with_bit_set, with_bit_reset}
use Rattle.intervals.specs.Range.{RangeView, Within, full}
use Rattle.intervals.proofs.Laws.{of_single_holds, doubles_of_bytes, halves_of_bytes}
use Rattle.abs_draft.specs.Results.{shift_range, rotate_range}

-- any byte is in the full range
pub in_full : (n : ℕ) → n < 256 → Within (full 256) n
in_full n h = omega arith

pub at_most_byte : (n : ℕ) → n < 256 → n ≤ 255
at_most_byte n h = omega arith

-- ---- shifts and rotations

left_turned : (n : ℕ) → n < 256 → 2 * (n % 128) + n / 128 ≡ rotation_left n
left_turned n h = omega arith

left_small : (n : ℕ) → n < 256 → rotation_left n ≤ 255
left_small n h = omega arith

right_small : (n : ℕ) → n < 256 → rotation_right n ≤ 255
right_small n h = omega arith

doubled : (n : ℕ) → 2 * (n % 128) ≡ 2 * n % 256
doubled n = omega arith

left_within : (range : RangeView) (n : ℕ) → n < 256 → Within range n → Within (of_single rotation_left range) (2 * (n % 128) + n / 128)
left_within range n small h = rw (left_turned n small) (of_single_holds rotation_left range n h (left_small n small))

right_within : (range : RangeView) (n : ℕ) → n < 256 → Within range n → Within (of_single rotation_right range) (n / 2 + 128 * (n % 2))
right_within range n small h = of_single_holds rotation_right range n h (right_small n small)

pub shift_within : (kind : ShiftKind) (range : RangeView) (n : ℕ) (carry : Bool) → n < 256 → Within range n → Within (shift_range kind range) (shifted (shift_named kind) n carry)
unfolding shifted
shift_within shifts.Rlc range n carry small h = left_within range n small h
shift_within shifts.Rrc range n carry small h = right_within range n small h
shift_within shifts.Rl range n carry small h = in_full _ (shifted-lt (shift_named shifts.Rl) n carry small)
shift_within shifts.Rr range n carry small h = in_full _ (shifted-lt (shift_named shifts.Rr) n carry small)
shift_within shifts.Sla range n carry small h = rw (doubled n) (doubles_of_bytes range n h)
shift_within shifts.Sra range n carry small h = in_full _ (shifted-lt (shift_named shifts.Sra) n carry small)
shift_within shifts.Srl range n carry small h = halves_of_bytes range n h

pub rotate_within : (kind : AccumulatorRotate) (range : RangeView) (n : ℕ) (carry : Bool) → n < 256 → Within range n → Within (rotate_range kind range) (shifted (rotation_named kind) n carry)
unfolding shifted
rotate_within rotates.Rlca range n carry small h = left_within range n small h
rotate_within rotates.Rrca range n carry small h = right_within range n small h
rotate_within rotates.Rla range n carry small h = in_full _ (shifted-lt (rotation_named rotates.Rla) n carry small)
rotate_within rotates.Rra range n carry small h = in_full _ (shifted-lt (rotation_named rotates.Rra) n carry small)

-- ---- bits

-- SET and RES as logic, over all bytes and bits
sets_as_or : ℕ → Bool
sets_as_or b = agree_below (λ n. eqb (bit_set b n) (with_bit_set b n)) (λ _. true) 256

resets_as_and : ℕ → Bool
resets_as_and b = agree_below (λ n. eqb (bit_reset b n) (with_bit_reset b n)) (λ _. true) 256

set_is_or : (b n : ℕ) → b < 8 → n < 256 → bit_set b n ≡ with_bit_set b n
unfolding bit_set sets_as_or
set_is_or b n below h = eqb-true _ _ (agree_below_at (λ n. eqb (bit_set b n) (with_bit_set b n)) (λ _. true) 256 n (agree_below_at sets_as_or (λ _. true) 8 b refl below) h)

reset_is_and : (b n : ℕ) → b < 8 → n < 256 → bit_reset b n ≡ with_bit_reset b n
unfolding bit_reset resets_as_and
reset_is_and b n below h = eqb-true _ _ (agree_below_at (λ n. eqb (bit_reset b n) (with_bit_reset b n)) (λ _. true) 256 n (agree_below_at resets_as_and (λ _. true) 8 b refl below) h)

pub bit_below : (b : Bit) → bit b < 8
bit_below bits.Zero = omega arith
bit_below bits.One = omega arith
bit_below bits.Two = omega arith
bit_below bits.Three = omega arith
bit_below bits.Four = omega arith
bit_below bits.Five = omega arith
bit_below bits.Six = omega arith
bit_below bits.Seven = omega arith

pub set_within : (b : Bit) (range : RangeView) (n : ℕ) → n < 256 → Within range n → Within (of_single (with_bit_set (bit b)) range) (bit_set (bit b) n)
set_within b range n small h =
    let e = set_is_or (bit b) n (bit_below b) small in
    let top = at_most_byte _ (bit_set-lt (bit b) n (bit_below b) small) in
    rw e (of_single_holds (with_bit_set (bit b)) range n h (rw e at top))

pub reset_within : (b : Bit) (range : RangeView) (n : ℕ) → n < 256 → Within range n → Within (of_single (with_bit_reset (bit b)) range) (bit_reset (bit b) n)
reset_within b range n small h =
    let e = reset_is_and (bit b) n (bit_below b) small in
    let top = at_most_byte _ (bit_reset-lt (bit b) n small) in
    rw e (of_single_holds (with_bit_reset (bit b)) range n h (rw e at top))
