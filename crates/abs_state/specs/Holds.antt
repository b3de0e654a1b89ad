-- When an abstract state holds of the machine (docs/CHECKER.md, "What a row knows").
use Rattle.std.specs.Prelude.{◌≡◌, List, Bool, false}
use Rattle.intervals.specs.Domain.{Entry}
use Rattle.stack_shape.specs.Shape.{HoldsShape}
use Rattle.abs_state.specs.Cell.{HoldsCells}
use Rattle.abs_state.specs.Fact.{HoldsFact}
use Rattle.abs_state.specs.Pairs.{HoldsPairs}
use Rattle.abs_state.specs.Seen.{Seen}
use Rattle.abs_state.specs.declared.cell.KeptCell.{KeptCell}
use Rattle.abs_state.specs.declared.mode.Mode.{Mode}
use Rattle.abs_state.specs.declared.mode.Mode.TheVariants.{Unset, Set, Nmi}
use Rattle.abs_state.specs.declared.state.AbsState.{AbsState}

-- the NMI enable, the flip-flop's line and its latch are clear
pub record IsQuiet (enable line latched : Bool) : Type 0 where
  pub no_enable : enable ≡ false
  pub no_line : line ≡ false
  pub no_latch : latched ≡ false

-- in a mode in which no NMI comes, they are clear
abbrev pub HoldsMode : Mode → Bool → Bool → Bool → Type 0
HoldsMode Unset enable line latched = IsQuiet enable line latched
HoldsMode Set enable line latched = IsQuiet enable line latched
HoldsMode Nmi enable line latched = Unit {0}

-- the state holds of what an activation sees, given the kept cells and the values of the pairs at its entry
pub record Holds (s : AbsState) (cells : List KeptCell) (entry : Entry) (m : Seen) : Type 0 where
  pub mode : HoldsMode s.mode m.enable m.line m.latched
  pub cells_hold : HoldsCells s.armed cells m.cells
  pub pairs : HoldsPairs s.pairs entry m.regs
  pub flag : HoldsFact s.flag m.regs
  pub shape : HoldsShape s.shape entry m.words
