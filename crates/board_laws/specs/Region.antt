-- Helper: the stack region, and the data writes that miss it.
use Rattle.std.specs.Prelude.{ℕ, ◌+◌, ◌-◌, ◌*◌, ◌<◌, ◌≤◌, ◌≢◌, List, All}
use Rattle.address_map.specs.AddressMap.{MapView}
use Rattle.address_map.specs.Class.{class_of}
use Rattle.address_map.specs.MapLaw.{IsMap}
use Rattle.address_map.specs.Ranges.{FoldsInto}
use Rattle.address_map.specs.WorkRam.{work_start}
use Rattle.address_map.specs.declared.map.WriteClass.TheVariants as writes
use Rattle.address_map.specs.declared.region.Region.{Region}
use Rattle.board_step.specs.State.{BoardView}
use Rattle.z80_draft.specs.declared.access.Write.{Write}

-- a stack region lies in the first 400h addresses of work RAM, so each of its bytes has a cell of its own
pub record IsStackRegion (map : MapView) (region : Region) : Type 0 where
  pub is_map : IsMap map
  pub low : work_start map ≤ region.low
  pub some : region.low < region.top
  pub top : region.top ≤ work_start map + 0x400
  -- the top is a word
  pub top_fits : region.top < 0x10000

-- the region has room for this many words
abbrev pub HasRoom : Region → ℕ → Type 0
HasRoom region count = 2 * count ≤ region.top - region.low

-- the part of the region in use: from SP to the top
abbrev pub used : Region → BoardView → Region
used region s = record { low = s.regs.sp; top = region.top }

-- no data write folds to a cell of the region
abbrev pub Misses : MapView → Region → List Write → Type 0
Misses map region ws = All (λ (w : Write). FoldsInto map region w.at → ⊥) ws

-- no data write goes to the NMI enable
abbrev pub NoneEnables : MapView → List Write → Type 0
NoneEnables map ws = All (λ (w : Write). (class_of map w.at).write ≢ writes.NmiEnable) ws

-- each data write goes to an address that takes data, neither ROM nor unmapped
abbrev pub AllTaken : MapView → List Write → Type 0
AllTaken map ws = All (λ (w : Write). ((class_of map w.at).write ≢ writes.Rom) × ((class_of map w.at).write ≢ writes.Unmapped)) ws
