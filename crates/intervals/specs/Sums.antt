-- Sums and differences of ranges (docs/CHECKER.md, "The window rule and the table of results").
-- A size is 256 for bytes and 65,536 for words. Differences are computed one size higher, so that they are not
-- negative; that changes neither windows nor residues.
use Rattle.std.specs.Prelude.{ℕ, ◌+◌, ◌-◌, ◌/◌, ◌%◌, ◌==◌, nat_lt, if◌then◌else◌}
use Rattle.intervals.specs.Range.{RangeView, full}

-- The window rule. Results that lie in one window, from a multiple of the size to just below the next, give their
-- residues; all others give the full range.
abbrev pub window : ℕ → ℕ → ℕ → RangeView
window size low high =
    if low / size == high / size then record { low = low % size; high = high % size } else full size

-- ADD
abbrev pub sum : ℕ → RangeView → RangeView → RangeView
sum size a b = window size (a.low + b.low) (a.high + b.high)

-- ADC, with either carry
abbrev pub sum_with_carry : ℕ → RangeView → RangeView → RangeView
sum_with_carry size a b = window size (a.low + b.low) (a.high + b.high + 1)

-- SUB
abbrev pub difference : ℕ → RangeView → RangeView → RangeView
difference size a b = window size (size + a.low - b.high) (size + a.high - b.low)

-- SBC, with either carry
abbrev pub difference_with_carry : ℕ → RangeView → RangeView → RangeView
difference_with_carry size a b = window size (size + a.low - b.high - 1) (size + a.high - b.low)

-- INC
abbrev pub increment : ℕ → RangeView → RangeView
increment size a = window size (a.low + 1) (a.high + 1)

-- DEC
abbrev pub decrement : ℕ → RangeView → RangeView
decrement size a = window size (size + a.low - 1) (size + a.high - 1)

-- NEG: 0 minus the byte
abbrev pub negation : RangeView → RangeView
negation a = window 256 (256 - a.high) (256 - a.low)

-- What a displacement byte adds to a word, 65,536 higher so that it is not negative. A pattern from 128 on stands for
-- 256 less.
abbrev pub displacement_of : ℕ → ℕ
displacement_of pattern = if nat_lt pattern 128 then 65536 + pattern else 65536 + pattern - 256

-- (IX+d) and (IY+d)
abbrev pub displacement : RangeView → ℕ → RangeView
displacement a pattern = window 65536 (a.low + displacement_of pattern) (a.high + displacement_of pattern)
