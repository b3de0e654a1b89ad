use Rattle.std.proofs.Common.{◌≡◌, drop}
use Rattle.address_map.specs.Zone.{first_zone, in_zone}
use Rattle.address_map.proofs.list.class_among.Given as goal

abbrev pub invariant-loop-zone : goal.invariant-loop-zone
invariant-loop-zone l =
    first_zone (in_zone l.address) l.zones ≡ first_zone (in_zone l.address) (drop l.zone-index l.zones)
