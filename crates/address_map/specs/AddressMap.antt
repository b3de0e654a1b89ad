-- Trusted: the view of an address map.
use Rattle.std.specs.Prelude.{ℕ, List}
use Rattle.address_map.specs.declared.zone.Zone.{Zone}

-- the zones, and the length of the ROM in bytes
pub record MapView : Type 0 where
  pub zones : List Zone
  pub rom_len : ℕ

abbrev pub map_of : List Zone → ℕ → MapView
map_of zones rom_len = record { zones = zones; rom_len = rom_len }
