-- Trusted: the class of each address of a map, and the number of its cell.
use Rattle.std.specs.Prelude.{ℕ, ◌%◌}
use Rattle.address_map.specs.AddressMap.{MapView}
use Rattle.address_map.specs.RamKind.{size_of}
use Rattle.address_map.specs.Zone.{in_zone, first_zone, class_in}
use Rattle.address_map.specs.declared.cell.RamKind.{RamKind}
use Rattle.address_map.specs.declared.map.Class.{Class}

-- the class of an address, by the zone that contains it
unfoldable pub class_of : MapView → ℕ → Class
class_of m address = class_in (first_zone (in_zone address) m.zones) address

-- the number of an address's cell in a RAM: the address modulo the RAM's size
abbrev pub cell_index : RamKind → ℕ → ℕ
cell_index ram address = address % size_of ram
