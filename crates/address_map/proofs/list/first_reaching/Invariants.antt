use Rattle.std.proofs.Common.{◌≡◌, drop}
use Rattle.address_map.specs.Zone.{first_zone}
use Rattle.address_map.specs.ZoneUse.{reaches}
use Rattle.address_map.proofs.list.first_reaching.Given as goal

abbrev pub invariant-loop-zone : goal.invariant-loop-zone
invariant-loop-zone l =
    first_zone (reaches l.page) l.zones ≡ first_zone (reaches l.page) (drop l.zone-index l.zones)
