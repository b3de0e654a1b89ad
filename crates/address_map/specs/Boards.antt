-- Trusted: the address maps of the boards (docs/BOARD.md, "Addresses"), as zones.
use Rattle.std.specs.Prelude.{ℕ, ◌-◌, if◌then◌else◌, nat_lt, List, [], ◌∷◌}
use Rattle.address_map.specs.AddressMap.{MapView, map_of}
use Rattle.address_map.specs.declared.cell.RamKind.TheVariants.{Work, Video, Object}
use Rattle.address_map.specs.declared.map.Input.TheVariants as inputs
use Rattle.address_map.specs.declared.map.ReadClass.{ReadClass}
use Rattle.address_map.specs.declared.map.ReadClass.TheVariants as reads
use Rattle.address_map.specs.declared.zone.WriteUse.{WriteUse}
use Rattle.address_map.specs.declared.zone.WriteUse.TheVariants as uses
use Rattle.address_map.specs.declared.zone.Zone.{Zone}

abbrev pub zone : ℕ → ℕ → ReadClass → WriteUse → Zone
zone first last read write = record { first = first; last = last; read = read; write = write }

abbrev pub open_zone : ℕ → ℕ → Zone
open_zone first last = zone first last reads.Open uses.Open

-- the ROM from 0000, an open zone from its end to 3FFF, and the zones after that
abbrev pub with_rom : ℕ → List Zone → List Zone
with_rom rom_len behind = zone 0 (rom_len - 1) reads.Rom uses.Rom
    ∷ (if nat_lt rom_len 0x4000 then open_zone rom_len 0x3FFF ∷ behind else behind)

-- the zones of the Galaxian board from 4000 on
abbrev pub galaxian_zones : List Zone
galaxian_zones = zone 0x4000 0x47FF (reads.Ram Work) (uses.Ram Work)
    ∷ open_zone 0x4800 0x4FFF
    ∷ zone 0x5000 0x57FF (reads.Ram Video) (uses.Ram Video)
    ∷ zone 0x5800 0x5FFF (reads.Ram Object) (uses.Ram Object)
    ∷ zone 0x6000 0x67FF (reads.Input inputs.In0) uses.Latch
    ∷ zone 0x6800 0x6FFF (reads.Input inputs.In1) uses.Latch
    ∷ zone 0x7000 0x77FF (reads.Input inputs.In2) uses.LatchWithEnable
    ∷ zone 0x7800 0x7FFF reads.Open uses.Pitch
    ∷ open_zone 0x8000 0xFFFF
    ∷ []

-- the zones of the raised board from 4000 on: those of 4000 to 7FFF, 4000h higher
abbrev pub raised_zones : List Zone
raised_zones = open_zone 0x4000 0x7FFF
    ∷ zone 0x8000 0x87FF (reads.Ram Work) (uses.Ram Work)
    ∷ open_zone 0x8800 0x8FFF
    ∷ zone 0x9000 0x97FF (reads.Ram Video) (uses.Ram Video)
    ∷ zone 0x9800 0x9FFF (reads.Ram Object) (uses.Ram Object)
    ∷ zone 0xA000 0xA7FF (reads.Input inputs.In0) uses.Latch
    ∷ zone 0xA800 0xAFFF (reads.Input inputs.In1) uses.Latch
    ∷ zone 0xB000 0xB7FF (reads.Input inputs.In2) uses.LatchWithEnable
    ∷ zone 0xB800 0xBFFF reads.Open uses.Pitch
    ∷ open_zone 0xC000 0xFFFF
    ∷ []

-- the map of the Galaxian board for a ROM of this length
unfoldable pub galaxian : ℕ → MapView
galaxian rom_len = map_of (with_rom rom_len galaxian_zones) rom_len

-- the map of the raised board for a ROM of this length
unfoldable pub raised : ℕ → MapView
raised rom_len = map_of (with_rom rom_len raised_zones) rom_len
