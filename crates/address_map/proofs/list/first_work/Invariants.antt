use Rattle.std.proofs.Common.{◌≡◌, drop}
use Rattle.address_map.specs.Zone.{first_zone}
use Rattle.address_map.specs.ZoneUse.{names_work}
use Rattle.address_map.proofs.list.first_work.Given as goal

abbrev pub invariant-loop-zone : goal.invariant-loop-zone
invariant-loop-zone l =
    first_zone names_work l.zones ≡ first_zone names_work (drop l.zone-index l.zones)
