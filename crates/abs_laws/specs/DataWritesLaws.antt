-- What the laws of src/data_writes.rt say: each is the contract of the function with its name.
use Rattle.std.specs.Prelude.{List, ◌≡◌, false, [], ◌≢◌, length}
use Rattle.std.specs.List.{All, AllZip}
use Rattle.address_map.specs.AddressMap.{MapView}
use Rattle.address_map.specs.declared.region.Region.{Region}
use Rattle.board_laws.specs.Region.{Misses, AllTaken, IsStackRegion}
use Rattle.z80_draft.specs.declared.access.Write.{Write}
use Rattle.abs_draft.specs.declared.data_write.DataWrite.{DataWrite}
use Rattle.abs_laws.specs.Fits.{WriteLiesIn, state_after_writes}
use Rattle.abs_laws.specs.Writes.{MissesRegion, TakesData, NeverEnables, AllKeep, IsPlaced}
use Rattle.board_step.specs.State.{BoardView}
use Rattle.board_step.specs.Step.{committed}
use Rattle.board_step.specs.Trap.{some_outside}
use Rattle.z80_draft.specs.Draft.{DraftView}
use Rattle.abs_state.specs.Holds.{HoldsMode}
use Rattle.abs_state.specs.declared.mode.Mode.TheVariants.{Unset, Nmi}
use Rattle.abs_state.specs.declared.state.AbsState.{AbsState}
use Rattle.abs_draft.specs.Ground.{GroundView}
use Rattle.address_map.specs.RamKind.{size_of}
use Rattle.address_map.specs.declared.cell.RamKind.TheVariants.{Work}
use Rattle.abs_state.specs.Cell.{HoldsCells}
use Rattle.abs_laws.specs.Cells.{bytes_of_cells}

abbrev pub WritesAreAsKnownMisses : Type 0
WritesAreAsKnownMisses =
    (map : MapView) (region : Region) (ws : List DataWrite) (writes : List Write) → All (MissesRegion map region) ws
    → AllZip WriteLiesIn ws writes → Misses map region writes

abbrev pub WritesAreAsKnownTaken : Type 0
WritesAreAsKnownTaken =
    (map : MapView) (ws : List DataWrite) (writes : List Write) → All (TakesData map) ws → AllZip WriteLiesIn ws writes
    → AllTaken map writes

abbrev pub ClearEnablesStayClear : Type 0
ClearEnablesStayClear =
    (map : MapView) (region : Region) (draft : DraftView) (s : BoardView) (ws : List DataWrite)
    → IsStackRegion map region → AllZip WriteLiesIn ws draft.writes → some_outside region draft.stack ≡ false
    → All (NeverEnables map) ws → s.enable ≡ false → (committed map draft s).enable ≡ false

abbrev pub ClearEnablesStayKept : Type 0
ClearEnablesStayKept =
    (map : MapView) (region : Region) (draft : DraftView) (s : BoardView) → IsStackRegion map region → draft.writes ≡ []
    → some_outside region draft.stack ≡ false → (committed map draft s).enable ≡ s.enable

abbrev pub ModesHoldAfterWritesHolds : Type 0
ModesHoldAfterWritesHolds =
    (g : GroundView) (region : Region) (draft : DraftView) (s : BoardView) (a : AbsState) (ws : List DataWrite)
    → IsStackRegion g.map region → AllZip WriteLiesIn ws draft.writes → some_outside region draft.stack ≡ false
    → HoldsMode a.mode s.enable s.line s.latched → (a.mode ≡ Unset → All (NeverEnables g.map) ws)
    → HoldsMode (state_after_writes g ws a).mode (committed g.map draft s).enable (committed g.map draft s).line (committed g.map draft s).latched

abbrev pub ModesHoldAfterWritesNmi : Type 0
ModesHoldAfterWritesNmi =
    (g : GroundView) (ws : List DataWrite) (a : AbsState) → a.mode ≡ Nmi → (state_after_writes g ws a).mode ≡ Nmi

abbrev pub ModesHoldAfterWritesUnset : Type 0
ModesHoldAfterWritesUnset =
    (g : GroundView) (ws : List DataWrite) (a : AbsState) → a.mode ≡ Unset → (state_after_writes g ws a).mode ≡ Unset

abbrev pub ModesHoldAfterWritesOther : Type 0
ModesHoldAfterWritesOther =
    (g : GroundView) (ws : List DataWrite) (a : AbsState) → a.mode ≢ Unset → (state_after_writes g ws a).mode ≢ Unset

abbrev pub CellsHoldAfterWrites : Type 0
CellsHoldAfterWrites =
    (g : GroundView) (region : Region) (draft : DraftView) (s : BoardView) (a : AbsState) (ws : List DataWrite)
    → IsStackRegion g.map region → length s.work ≡ size_of Work → All (IsPlaced g.map region) g.cells
    → AllZip WriteLiesIn ws draft.writes → some_outside region draft.stack ≡ false → AllKeep g a.armed ws
    → HoldsCells a.armed g.cells (bytes_of_cells g.cells s)
    → HoldsCells (state_after_writes g ws a).armed g.cells (bytes_of_cells g.cells (committed g.map draft s))
