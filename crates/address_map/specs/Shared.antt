-- Helper: the tests on what a zone and a range share.
use Rattle.std.specs.Prelude.{ℕ, ◌+◌, ◌-◌, ◌%◌, Bool, true, false, ◌&&◌, nat_le, nat_lt, min, max}
use Rattle.address_map.specs.ZoneUse.{writes_rom, writes_work}
use Rattle.address_map.specs.declared.zone.WriteUse.{WriteUse}
use Rattle.address_map.specs.declared.zone.WriteUse.TheVariants as uses
use Rattle.address_map.specs.declared.zone.Zone.{Zone}
use Rattle.intervals.specs.Range.{RangeView}

-- the lower and the upper end of what the zone and a range share
abbrev pub low_in : RangeView → Zone → ℕ
low_in range z = max z.first range.low

abbrev pub high_in : RangeView → Zone → ℕ
high_in range z = min z.last range.high

abbrev pub overlaps : RangeView → Zone → Bool
overlaps range z = nat_le (low_in range z) (high_in range z)

-- some number from `low` to `high` is congruent, modulo 400h, to one from `from` to `end` - 1: a multiple of 400h lies
-- among their differences
abbrev pub share_cell : ℕ → ℕ → ℕ → ℕ → Bool
share_cell low high from end =
    (nat_le low high && nat_lt from end)
    && nat_le (low + 0x10001) (((high + 0x10000) - from) - ((high + 0x10000) - from) % 0x400 + end)

abbrev pub writes_open : WriteUse → Bool
writes_open uses.Open = true
writes_open _ = false

abbrev pub writes_enable : WriteUse → Bool
writes_enable uses.LatchWithEnable = true
writes_enable _ = false

abbrev pub rom_in : RangeView → Zone → Bool
rom_in range z = writes_rom z.write && overlaps range z

abbrev pub unmapped_in : RangeView → Zone → Bool
unmapped_in range z = writes_open z.write && overlaps range z

abbrev pub enable_in : RangeView → Zone → Bool
enable_in range z = writes_enable z.write && nat_le (low_in range z + (high_in range z + 7) % 8) (high_in range z)

abbrev pub cell_in : ℕ → ℕ → RangeView → Zone → Bool
cell_in from end range z = writes_work z.write && share_cell (low_in range z) (high_in range z) from end
