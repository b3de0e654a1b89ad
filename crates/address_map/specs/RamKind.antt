-- Trusted: the sizes of the RAMs.
use Rattle.std.specs.Prelude.{ℕ}
use Rattle.address_map.specs.declared.cell.RamKind.{RamKind}
use Rattle.address_map.specs.declared.cell.RamKind.TheVariants.{Work, Video, Object}

-- the size of a RAM in bytes
abbrev pub size_of : RamKind → ℕ
size_of Work = 0x400
size_of Video = 0x400
size_of Object = 0x100
