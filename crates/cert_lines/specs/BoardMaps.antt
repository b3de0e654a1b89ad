-- Trusted: the address map of each board that a certificate may name.
use Rattle.std.specs.Prelude.{ℕ}
use Rattle.address_map.specs.AddressMap.{MapView}
use Rattle.address_map.specs.Boards.{galaxian, raised}
use Rattle.cert_lines.specs.declared.version.BoardMap.{BoardMap}
use Rattle.cert_lines.specs.declared.version.BoardMap.TheVariants.{Galaxian, Raised}

-- the map with this name, for a ROM of this length
abbrev pub map_named : BoardMap → ℕ → MapView
map_named Galaxian rom_len = galaxian rom_len
map_named Raised rom_len = raised rom_len
