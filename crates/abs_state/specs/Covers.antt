-- Covering, overlapping and joins of abstract states (docs/CHECKER.md, "Covering").
use Rattle.std.specs.List.{AllZip}
use Rattle.std.specs.Prelude.{◌≤◌, ◌≡◌, ◌==◌, min, true, if◌then◌else◌, length, Option, None, option_map}
use Rattle.stack_shape.specs.Shape.{CoversShape, OverlapsShape, hull_of_shapes}
use Rattle.stack_shape.specs.declared.slot.Slot.{Slot}
use Rattle.abs_state.specs.Fact.{covers_fact, hull_of_facts}
use Rattle.abs_state.specs.Mode.{covers_mode, hull_of_modes}
use Rattle.abs_state.specs.Pairs.{CoversPairs, KeepsPair, KeepsPairs, OverlapsPairs, join_of_pairs}
use Rattle.abs_state.specs.declared.mode.Mode.{Mode}
use Rattle.abs_state.specs.declared.state.AbsState.{AbsState}

-- the first state covers the second: mode, armed cells, pairs, flag fact and shape, each by itself
pub record CoversState (a b : AbsState) : Type 0 where
  pub mode : covers_mode a.mode b.mode ≡ true
  pub armed : a.armed ≤ b.armed
  pub pairs : CoversPairs a.pairs b.pairs
  pub flag : covers_fact a.flag b.flag ≡ true
  pub shape : CoversShape a.shape b.shape

-- the origin of the first slot, if it has one, is the second's
abbrev pub KeepsSlot : Slot → Slot → Type 0
KeepsSlot s t = KeepsPair s.pair t.pair

-- Each origin of the first state, of a pair or of a slot, is the second's, and its flag fact is the second's or none.
-- Ranges, mode and cells are not compared.
pub record KeepsState (a b : AbsState) : Type 0 where
  pub pairs : KeepsPairs a.pairs b.pairs
  pub flag : covers_fact a.flag b.flag ≡ true
  pub shape : AllZip KeepsSlot a.shape b.shape

-- All pairs and slots overlap. Mode, cells and flag fact are not compared.
pub record OverlapsState (a b : AbsState) : Type 0 where
  pub pairs : OverlapsPairs a.pairs b.pairs
  pub shape : OverlapsShape a.shape b.shape

-- the join of two states in a mode that covers both
abbrev pub hull_in : AbsState → AbsState → Mode → AbsState
hull_in a b mode = record {
  mode = mode;
  armed = min a.armed b.armed;
  pairs = join_of_pairs a.pairs b.pairs;
  flag = hull_of_facts a.flag b.flag;
  shape = hull_of_shapes a.shape b.shape;
}

-- the join of two states; none if their shapes have different lengths or no mode covers both
abbrev pub hull_of_states : AbsState → AbsState → Option AbsState
hull_of_states a b = if length a.shape == length b.shape then option_map (hull_in a b) (hull_of_modes a.mode b.mode) else None
