-- Helper: the page table, in which `class` looks first.
use Rattle.std.specs.Prelude.{ℕ, ◌<◌, ◌≡◌, List, get_or}
use Rattle.address_map.specs.Zone.{first_zone, no_zone}
use Rattle.address_map.specs.ZoneUse.{reaches}
use Rattle.address_map.specs.declared.zone.Zone.{Zone}

-- for each eight high bits, the first zone that may contain an address with them
pub record ArePages (zones : List Zone) (pages : List Zone) : Type 0 where
  pub first : (page : ℕ) → page < 0x100 → get_or pages page no_zone ≡ first_zone (reaches page) zones
