-- Helper: what is asked about the addresses of a range, stated address by address.
use Rattle.std.specs.Prelude.{ℕ, ◌<◌, ◌≤◌, ◌≡◌, ◌≢◌, ◌%◌, Some}
use Rattle.address_map.specs.AddressMap.{MapView}
use Rattle.address_map.specs.Class.{class_of}
use Rattle.address_map.specs.Cell.{cell_of}
use Rattle.address_map.specs.declared.cell.RamKind.TheVariants.{Work}
use Rattle.address_map.specs.declared.map.WriteClass.{WriteClass}
use Rattle.address_map.specs.declared.map.WriteClass.TheVariants as writes
use Rattle.address_map.specs.declared.region.Region.{Region}
use Rattle.intervals.specs.Range.{RangeView, Within}

-- the address folds to the cell of work RAM with the number `index` modulo 400h
abbrev pub IsAtCell : MapView → ℕ → ℕ → Type 0
IsAtCell m index address = cell_of m address ≡ Some (Work, index % 0x400)

-- the address folds to the same cell of work RAM as an address of the region
abbrev pub FoldsInto : MapView → Region → ℕ → Type 0
FoldsInto m region address = (other : ℕ) × (region.low ≤ other) × (other < region.top) × IsAtCell m other address

-- each address of the range takes data: it is neither ROM nor unmapped, and does not fold to a cell of the region
abbrev pub AllData : MapView → RangeView → Region → Type 0
AllData m range region = (address : ℕ) → Within range address
    → ((class_of m address).write ≢ writes.Rom) × ((class_of m address).write ≢ writes.Unmapped) × (FoldsInto m region address → ⊥)

-- some address of the range has this class for writing
abbrev pub SomeWrite : MapView → RangeView → WriteClass → Type 0
SomeWrite m range class = (address : ℕ) × Within range address × ((class_of m address).write ≡ class)

-- some address of the range folds to this cell of work RAM
abbrev pub SomeAtCell : MapView → RangeView → ℕ → Type 0
SomeAtCell m range index = (address : ℕ) × Within range address × IsAtCell m index address

-- some address of the range folds to a cell of the region
abbrev pub SomeInRegion : MapView → RangeView → Region → Type 0
SomeInRegion m range region = (address : ℕ) × Within range address × FoldsInto m region address
