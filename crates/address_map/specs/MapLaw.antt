-- Helper: the rules of an address map, and the faults of a list of zones.
use Rattle.std.specs.Prelude.{ℕ, ◌<◌, ◌≤◌, ◌≡◌, Bool, true, false, ◌&&◌, ◌==◌, nat_lt, List}
use Rattle.std.specs.List.{count_by, list_all}
use Rattle.address_map.specs.declared.fault.MapFault.{MapFault}
use Rattle.address_map.specs.declared.fault.MapFault.TheVariants as faults
use Rattle.address_map.specs.declared.zone.Zone.{Zone}
use Rattle.address_map.specs.Zone.{in_zone}
use Rattle.address_map.specs.ZoneUse.{names_work, fits_ram, names_rom, fits_rom}
use Rattle.address_map.specs.AddressMap.{MapView}

-- the number of zones that contain an address
unfoldable pub zones_at : List Zone → ℕ → ℕ
zones_at zones address = count_by (in_zone address) zones

-- exactly one zone names work RAM, and the RAM of each zone obeys the rules
unfoldable pub has_work : List Zone → Bool
has_work zones = count_by names_work zones == 1 && list_all fits_ram zones

-- exactly one zone names the ROM, and it is right for a ROM of this length
unfoldable pub has_rom : ℕ → List Zone → Bool
has_rom rom_len zones = count_by names_rom zones == 1 && list_all (fits_rom rom_len) zones

-- each address below `end` lies in exactly one zone
abbrev pub OneZoneBelow : List Zone → ℕ → Type 0
OneZoneBelow zones end = (address : ℕ) → address < end → zones_at zones address ≡ 1

-- the rules of an address map
pub record IsMap (m : MapView) : Type 0 where
  -- each address from 0000 to FFFF lies in exactly one zone
  pub one_zone : OneZoneBelow m.zones 0x10000
  -- no zone goes past FFFF
  pub ends : list_all (λ z. nat_lt z.last 0x10000) m.zones ≡ true
  pub work : has_work m.zones ≡ true
  pub rom : has_rom m.rom_len m.zones ≡ true

-- The first fault of a list of zones. Of the lowest gap and the lowest overlap it is the one at the lower address; then
-- Work, then Rom.
abbrev pub IsFirstFault : MapView → MapFault → Type 0
IsFirstFault m (faults.Gap address) = OneZoneBelow m.zones address × (zones_at m.zones address ≡ 0)
IsFirstFault m (faults.Overlap address) = OneZoneBelow m.zones address × (2 ≤ zones_at m.zones address)
IsFirstFault m faults.Work = OneZoneBelow m.zones 0x10000 × (has_work m.zones ≡ false)
IsFirstFault m faults.Rom =
    OneZoneBelow m.zones 0x10000 × (has_work m.zones ≡ true) × (has_rom m.rom_len m.zones ≡ false)
