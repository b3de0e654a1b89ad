-- The ground: the ROM, the address map and the kept cells; and what data reads and writes do there.
use Rattle.std.specs.Prelude.{ℕ, ◌+◌, ◌-◌, ◌%◌, ◌==◌, ◌&&◌, ◌||◌, nat_lt, nat_le, min, max, Bool, true, false, if◌then◌else◌, List, [], ◌∷◌, length, take, drop, Option, Some, None}
use Rattle.std.specs.List.{list_any, range_with_len, slice_get}
use Rattle.address_map.specs.AddressMap.{MapView}
use Rattle.address_map.specs.Class.{class_of}
use Rattle.address_map.specs.Cell.{cell_of}
use Rattle.address_map.specs.declared.cell.RamKind.{RamKind}
use Rattle.address_map.specs.declared.cell.RamKind.TheVariants.{Work, Video, Object}
use Rattle.address_map.specs.declared.map.WriteClass.{WriteClass}
use Rattle.address_map.specs.declared.map.WriteClass.TheVariants as writes
use Rattle.intervals.specs.Logic.{is_single}
use Rattle.intervals.specs.Range.{RangeView, full}
use Rattle.abs_state.specs.declared.cell.KeptCell.{KeptCell}
use Rattle.abs_state.specs.declared.mode.Mode.{Mode}
use Rattle.abs_state.specs.declared.mode.Mode.TheVariants.{Set, Nmi}
use Rattle.abs_draft.specs.declared.data_write.DataWrite.{DataWrite}

-- what is the same for all rows
pub record GroundView : Type 0 where
  pub rom : List ℕ
  pub map : MapView
  pub cells : List KeptCell

abbrev pub ground_of : List ℕ → MapView → List KeptCell → GroundView
ground_of rom map cells = record { rom = rom; map = map; cells = cells }

-- some address of a range passes a test
abbrev pub any_address : (ℕ → Bool) → RangeView → Bool
any_address test range = list_any test (range_with_len range.low (range.high + 1 - range.low))

abbrev pub is_enable : WriteClass → Bool
is_enable writes.NmiEnable = true
is_enable _ = false

-- some byte of the range is odd
abbrev pub some_odd : RangeView → Bool
some_odd range = range.low % 2 == 1 || nat_lt range.low range.high

-- the write may enable the NMI: some of its addresses is the NMI enable, and some of its bytes is odd
abbrev pub may_enable : MapView → DataWrite → Bool
may_enable map w = any_address (λ address. is_enable (class_of map address).write) w.at && some_odd w.byte

-- a write that may enable the NMI turns mode s into n
abbrev pub mode_after : Bool → Mode → Mode
mode_after true Set = Nmi
mode_after _ mode = mode

-- ---- kept cells

-- the cell is that of work RAM at this address
abbrev pub is_work_cell : Option (RamKind × ℕ) → ℕ → Bool
is_work_cell None at = false
is_work_cell (Some (Work, index)) at = index == at % 0x400
is_work_cell (Some (Video, index)) at = false
is_work_cell (Some (Object, index)) at = false

-- the first of the cells to which the address folds
abbrev pub cell_at : MapView → ℕ → List KeptCell → Option KeptCell
cell_at map address [] = None
cell_at map address (cell ∷ cells) = if is_work_cell (cell_of map address) cell.at then Some cell else cell_at map address cells

-- each byte of the second range lies in the first
abbrev pub has_range : RangeView → RangeView → Bool
has_range a b = nat_le a.low b.low && nat_le b.high a.high

-- the write goes to one address, which folds to this cell, with a byte of its range
abbrev pub arms : MapView → DataWrite → Option KeptCell → Bool
arms map w None = false
arms map w (Some cell) = (is_single w.at && is_work_cell (cell_of map w.at.low) cell.at) && has_range cell.range w.byte

-- the number of armed cells after a write: one more if it arms the next cell
abbrev pub armed_after : GroundView → DataWrite → ℕ → ℕ
armed_after g w armed = if arms g.map w (slice_get g.cells armed) then armed + 1 else armed

-- ---- reads

-- the least of these bytes
unfoldable pub least_of : ℕ → List ℕ → ℕ
least_of least [] = least
least_of least (byte ∷ bytes) = min byte (least_of least bytes)

-- the greatest of these bytes
unfoldable pub greatest_of : ℕ → List ℕ → ℕ
greatest_of greatest [] = greatest
greatest_of greatest (byte ∷ bytes) = max byte (greatest_of greatest bytes)

-- the range from the least to the greatest of these bytes
abbrev pub span : List ℕ → RangeView
span [] = full 256
span (byte ∷ bytes) = record { low = least_of byte bytes; high = greatest_of byte bytes }

-- the bytes of the ROM at the addresses of a range
abbrev pub bytes_at : List ℕ → RangeView → List ℕ
bytes_at rom at = take (at.high + 1 - at.low) (drop at.low rom)

-- a read of addresses that all lie in the ROM gives the range of their bytes; any other is full
abbrev pub rom_range : List ℕ → RangeView → RangeView
rom_range rom at = if nat_lt at.high (length rom) then span (bytes_at rom at) else full 256

-- a read of one address gives the range of an armed cell there
abbrev pub read_one : GroundView → ℕ → RangeView → Option KeptCell → RangeView
read_one g armed at (Some cell) = cell.range
read_one g armed at None = rom_range g.rom at

-- the range of the byte that a data read finds, given the number of armed cells
abbrev pub read_range : GroundView → ℕ → RangeView → RangeView
read_range g armed at = if is_single at then read_one g armed at (cell_at g.map at.low (take armed g.cells)) else rom_range g.rom at
