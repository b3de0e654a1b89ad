-- Ranges of bytes and of words (docs/CHECKER.md, "Ranges and their normal form").
use Rattle.std.specs.Prelude.{ℕ, ◌+◌, ◌-◌, ◌≤◌, min, max, ◌==◌, nat_le, if◌then◌else◌, Option, Some, None}

-- the whole numbers from low to high, both included: the view of a `ByteRange` and of a `WordRange`, whose low bound is
-- never above the high one
pub record RangeView : Type 0 where
  pub low : ℕ
  pub high : ℕ

-- the value lies in the range
abbrev pub Within : RangeView → ℕ → Type 0
Within r v = (r.low ≤ v) × (v ≤ r.high)

-- the range of one value
abbrev pub single : ℕ → RangeView
single v = record { low = v; high = v }

-- all values of a size: 256 for bytes, 65,536 for words
abbrev pub full : ℕ → RangeView
full size = record { low = 0; high = size - 1 }

-- the range from low to high, if it has any value
abbrev pub between : ℕ → ℕ → Option RangeView
between low high = if nat_le low high then Some (record { low = low; high = high }) else None

-- each value of the second range lies in the first
abbrev pub Covers : RangeView → RangeView → Type 0
Covers a b = (a.low ≤ b.low) × (b.high ≤ a.high)

-- the smallest range that contains both
abbrev pub hull : RangeView → RangeView → RangeView
hull a b = record { low = min a.low b.low; high = max a.high b.high }

-- the ranges share a value
abbrev pub Overlaps : RangeView → RangeView → Type 0
Overlaps a b = (a.low ≤ b.high) × (b.low ≤ a.high)

-- the values that lie in both ranges, if there are any
abbrev pub intersection : RangeView → RangeView → Option RangeView
intersection a b = between (max a.low b.low) (min a.high b.high)

-- The range with one value cut from its ends, if anything is left. A value between the ends stays.
abbrev pub without : RangeView → ℕ → Option RangeView
without r v =
    between (if r.low == v then r.low + 1 else r.low) (if r.high == v then r.high - 1 else r.high)

-- the result contains f x for each x of the range
abbrev pub TakesInto : (ℕ → ℕ) → RangeView → RangeView → Type 0
TakesInto f a result = (x : ℕ) → Within a x → Within result (f x)

-- the result contains f x y for each x and y of the ranges
abbrev pub TakesBothInto : (ℕ → ℕ → ℕ) → RangeView → RangeView → RangeView → Type 0
TakesBothInto f a b result = (x y : ℕ) → Within a x → Within b y → Within result (f x y)
