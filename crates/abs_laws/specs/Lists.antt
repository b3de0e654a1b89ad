-- The moves of a list before and after its test.
use Rattle.std.specs.Prelude.{◌≡◌, ◌≤◌, ◌+◌, List, length, None}
use Rattle.z80_draft.specs.Draft.{DraftView, test_holds}
use Rattle.z80_draft.specs.Outside.{Outside}
use Rattle.z80_draft.specs.Room.{accesses_in, writes_in}
use Rattle.z80_moves.specs.declared.moves.Move.{Move}
use Rattle.z80_moves.specs.declared.moves.Test.{Test}
use Rattle.abs_draft.specs.Ground.{GroundView}
use Rattle.abs_draft.specs.Outcomes.{before_test, behind_test, test_of}
use Rattle.abs_draft.specs.declared.draft.AbsDraft.{AbsDraft}
use Rattle.abs_laws.specs.Fits.{AreInRange, ReadsFit}

-- a draft with the outcome of the test marked on it
abbrev pub marked : Test → DraftView → DraftView
marked test d = record d { taken = test_holds test d }

-- effect and shape are unchanged
abbrev pub KeepsEffectAndShape : AbsDraft → AbsDraft → Type 0
KeepsEffectAndShape old new = (new.effect ≡ old.effect) × (new.state.shape ≡ old.state.shape)

-- the moves before the test and after it together have the constants, data writes and stack accesses of the list, and
-- there is no test before the test
pub record IsParted (moves : List Move) : Type 0 where
  pub before_has_none : test_of (before_test moves) ≡ None
  pub in_range : AreInRange moves → AreInRange (before_test moves) × AreInRange (behind_test moves)
  pub writes : writes_in (before_test moves) + writes_in (behind_test moves) ≡ writes_in moves
  pub accesses : accesses_in (before_test moves) + accesses_in (behind_test moves) ≡ accesses_in moves

-- a list may run on a draft: its constants are in range, there is room for its data writes, it has at most one test,
-- and what reads find is known
pub record MayRun (g : GroundView) (o : Outside) (k : AbsDraft) (d : DraftView) (moves : List Move) : Type 0 where
  pub in_range : AreInRange moves
  pub room : length d.writes + writes_in moves ≤ 2
  pub once : test_of (behind_test moves) ≡ None
  pub reads : ReadsFit g o k.readable

-- a list with at most two data writes, none of them after its test, and at most one test
pub record IsShortList (moves : List Move) : Type 0 where
  pub writes : writes_in moves ≤ 2
  pub once : test_of (behind_test moves) ≡ None
  pub writes_first : writes_in (behind_test moves) ≡ 0
