-- Bytes whose bits are known to be apart, or to be kept (docs/CHECKER.md, "Linear effects").
use Rattle.std.specs.Prelude.{◌+◌, ◌%◌, ◌==◌, ◌&&◌, Bool, bit_and}
use Rattle.intervals.specs.Logic.{is_single, ones_from}
use Rattle.intervals.specs.Range.{RangeView}

-- the second byte is one number, and all its bits lie above those that the first byte may have
abbrev pub is_above : RangeView → RangeView → Bool
is_above a b = is_single b && (b.low % (ones_from a.high + 1) == 0)

-- the second byte is one number, and it has all bits that the first byte may have
abbrev pub has_all : RangeView → RangeView → Bool
has_all a b = is_single b && (bit_and b.low (ones_from a.high) == ones_from a.high)
