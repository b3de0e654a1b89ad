-- Helper: where work RAM is.
use Rattle.std.specs.Prelude.{ℕ, ◌≡◌}
use Rattle.address_map.specs.AddressMap.{MapView}
use Rattle.address_map.specs.Zone.{first_zone}
use Rattle.address_map.specs.ZoneUse.{names_work}
use Rattle.address_map.specs.declared.cell.RamKind.TheVariants as rams
use Rattle.address_map.specs.declared.map.Class.{Class}
use Rattle.address_map.specs.declared.map.ReadClass.TheVariants as reads
use Rattle.address_map.specs.declared.map.WriteClass.TheVariants as writes

-- the first address of work RAM
unfoldable pub work_start : MapView → ℕ
work_start m = (first_zone names_work m.zones).first

-- the last address of work RAM
unfoldable pub work_last : MapView → ℕ
work_last m = (first_zone names_work m.zones).last

-- these are the first and the last address of work RAM
pub record IsWork (m : MapView) (low high : ℕ) : Type 0 where
  pub start : low ≡ work_start m
  pub last : high ≡ work_last m

-- the class of the addresses of work RAM
abbrev pub work_class : Class
work_class = record { read = reads.Ram rams.Work; write = writes.Ram rams.Work }
