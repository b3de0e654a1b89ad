-- Helper: the rules on single zones of a map.
use Rattle.std.specs.Prelude.{ℕ, ◌+◌, ◌%◌, ◌/◌, Bool, true, false, not, ◌&&◌, ◌||◌, nat_le, ◌==◌}
use Rattle.address_map.specs.declared.cell.RamKind.{RamKind}
use Rattle.address_map.specs.declared.cell.RamKind.TheVariants.{Work, Video, Object}
use Rattle.address_map.specs.declared.map.ReadClass.{ReadClass}
use Rattle.address_map.specs.declared.map.ReadClass.TheVariants as reads
use Rattle.address_map.specs.declared.zone.WriteUse.{WriteUse}
use Rattle.address_map.specs.declared.zone.WriteUse.TheVariants as uses
use Rattle.address_map.specs.declared.zone.Zone.{Zone}

-- whether the zone may contain an address with these eight high bits
abbrev pub reaches : ℕ → Zone → Bool
reaches page z = nat_le (z.first / 0x100) page && nat_le page (z.last / 0x100)

abbrev pub same_kind : RamKind → RamKind → Bool
same_kind Work Work = true
same_kind Video Video = true
same_kind Object Object = true
same_kind _ _ = false

-- the zone names the same RAM for reading and for writing, or no RAM
abbrev pub one_ram : ReadClass → WriteUse → Bool
one_ram (reads.Ram read) (uses.Ram written) = same_kind read written
one_ram (reads.Ram read) _ = false
one_ram _ (uses.Ram written) = false
one_ram _ _ = true

abbrev pub reads_work : ReadClass → Bool
reads_work (reads.Ram Work) = true
reads_work _ = false

abbrev pub writes_work : WriteUse → Bool
writes_work (uses.Ram Work) = true
writes_work _ = false

-- the zone names work RAM
abbrev pub names_work : Zone → Bool
names_work z = reads_work z.read || writes_work z.write

-- The rule on each zone's RAM: one RAM for both. Work RAM also begins at a multiple of 400h and has at least 400h
-- addresses.
abbrev pub fits_ram : Zone → Bool
fits_ram z =
    one_ram z.read z.write && (not (names_work z) || (z.first % 0x400 == 0 && nat_le (z.first + 0x400) (z.last + 1)))

abbrev pub reads_rom : ReadClass → Bool
reads_rom reads.Rom = true
reads_rom _ = false

abbrev pub writes_rom : WriteUse → Bool
writes_rom uses.Rom = true
writes_rom _ = false

-- the zone names the ROM
abbrev pub names_rom : Zone → Bool
names_rom z = reads_rom z.read || writes_rom z.write

-- the rule on a zone that names the ROM: ROM for both, from 0000 to the ROM's last byte
abbrev pub fits_rom : ℕ → Zone → Bool
fits_rom rom_len z =
    not (names_rom z) || ((reads_rom z.read && writes_rom z.write) && (z.first == 0 && z.last + 1 == rom_len))
