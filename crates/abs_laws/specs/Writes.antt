-- What the rules require of a row's data writes and of kept cells.
use Rattle.std.specs.Prelude.{ℕ, ◌+◌, ◌<◌, ◌≤◌, ◌≡◌, ◌≢◌, false, List, [], ◌∷◌, take}
use Rattle.std.specs.List.{All}
use Rattle.address_map.specs.AddressMap.{MapView}
use Rattle.address_map.specs.Class.{class_of}
use Rattle.address_map.specs.Ranges.{FoldsInto, SomeAtCell}
use Rattle.address_map.specs.WorkRam.{work_start}
use Rattle.address_map.specs.declared.map.WriteClass.TheVariants as writes
use Rattle.address_map.specs.declared.region.Region.{Region}
use Rattle.intervals.specs.Range.{Within, Covers}
use Rattle.abs_state.specs.declared.cell.KeptCell.{KeptCell}
use Rattle.abs_draft.specs.Ground.{GroundView, may_enable, armed_after}
use Rattle.abs_draft.specs.declared.data_write.DataWrite.{DataWrite}

-- a kept cell lies in the first 400h addresses of work RAM, outside the stack region
pub record IsPlaced (map : MapView) (region : Region) (cell : KeptCell) : Type 0 where
  pub start : work_start map ≤ cell.at
  pub end : cell.at < work_start map + 0x400
  pub outside : region.low ≤ cell.at → cell.at < region.top → ⊥

-- no address of a data write folds to a cell of the region
abbrev pub MissesRegion : MapView → Region → DataWrite → Type 0
MissesRegion map region w = (at : ℕ) → Within w.at at → FoldsInto map region at → ⊥

-- no address of a data write is ROM or unmapped
abbrev pub TakesData : MapView → DataWrite → Type 0
TakesData map w = (at : ℕ) → Within w.at at → ((class_of map at).write ≢ writes.Rom) × ((class_of map at).write ≢ writes.Unmapped)

-- the data write cannot enable the NMI
abbrev pub NeverEnables : MapView → DataWrite → Type 0
NeverEnables map w = may_enable map w ≡ false

-- a data write to one of these cells writes a byte of its range
abbrev pub KeepsCells : MapView → List KeptCell → DataWrite → Type 0
KeepsCells map cells w = All (λ (cell : KeptCell). SomeAtCell map w.at cell.at → Covers cell.range w.byte) cells

-- each data write keeps the cells that are armed before it
unfoldable pub AllKeep : GroundView → ℕ → List DataWrite → Type 0
AllKeep g armed [] = Unit {0}
AllKeep g armed (w ∷ ws) = KeepsCells g.map (take armed g.cells) w × AllKeep g (armed_after g w armed) ws
