-- What the laws of src/moves.rt say: each is the contract of the function with its name.
use Rattle.std.specs.Prelude.{ℕ, List, Ok, ◌+◌, ◌≤◌, ◌≡◌, Bool, length}
use Rattle.board_fetch.specs.Decoded.{StandsAt}
use Rattle.board_step.specs.State.{AreBytes}
use Rattle.z80_decode.specs.declared.instr.Instr.{Instr}
use Rattle.z80_moves.specs.Moves.{moves_of}
use Rattle.abs_laws.specs.Fits.{AreInRange, Fits, IsInRange, ReadsFit}
use Rattle.intervals.specs.Domain.{Entry}
use Rattle.loop_bounds.specs.Effect.{Valuation}
use Rattle.z80_draft.specs.Draft.{DraftView, moved}
use Rattle.z80_draft.specs.Outside.{Outside}
use Rattle.z80_draft.specs.Room.{accesses_by, writes_by}
use Rattle.z80_moves.specs.declared.moves.Move.{Move}
use Rattle.abs_state.specs.declared.state.AbsState.{AbsState}
use Rattle.abs_draft.specs.AfterMove.{after_move}
use Rattle.abs_draft.specs.Ground.{GroundView}
use Rattle.abs_draft.specs.declared.draft.AbsDraft.{AbsDraft}

abbrev pub ConstantsAreInRange : Type 0
ConstantsAreInRange =
    (rom : List ℕ) (at : ℕ) (instr : Instr) → AreBytes rom → StandsAt rom at (Ok instr) → AreInRange (moves_of instr)

abbrev pub AccessFreeMovesFit : Type 0
AccessFreeMovesFit =
    (g : GroundView) (start : AbsState) (o : Outside) (inline : Bool) (move : Move) (k : AbsDraft) (entry : Entry) (before : Valuation) (draft : DraftView) (words : List ℕ)
    → accesses_by move ≡ 0 → IsInRange move → length draft.writes + writes_by move ≤ 2 → ReadsFit g o k.readable
    → Fits g start k entry before draft words
    → Fits g start (after_move g inline move k) entry before (moved o move draft) words
