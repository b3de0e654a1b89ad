use Rattle.std.proofs.Common.{◌≡◌, ◌<◌, ℕ, get_or, length}
use Rattle.address_map.specs.Zone.{first_zone, no_zone}
use Rattle.address_map.specs.ZoneUse.{reaches}
use Rattle.address_map.proofs.list.pages_of.Given as goal

abbrev pub invariant-loop-page : goal.invariant-loop-page
invariant-loop-page l =
    (length l.pages ≡ 256) × ((k : ℕ) → k < l.page → get_or l.pages k no_zone ≡ first_zone (reaches k) l.zones)
