-- Helper: the cell of RAM at an address.
use Rattle.std.specs.Prelude.{ℕ, Option, Some, None}
use Rattle.address_map.specs.AddressMap.{MapView}
use Rattle.address_map.specs.declared.cell.RamKind.{RamKind}
use Rattle.address_map.specs.declared.map.WriteClass.{WriteClass}
use Rattle.address_map.specs.declared.map.WriteClass.TheVariants as writes
use Rattle.address_map.specs.Class.{class_of, cell_index}

-- the cell that an address reads and writes
abbrev pub cell_of_class : WriteClass → ℕ → Option (RamKind × ℕ)
cell_of_class (writes.Ram ram) address = Some (ram, cell_index ram address)
cell_of_class _ address = None

abbrev pub cell_of : MapView → ℕ → Option (RamKind × ℕ)
cell_of m address = cell_of_class (class_of m address).write address
