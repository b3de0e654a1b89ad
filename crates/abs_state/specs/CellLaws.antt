-- The laws of `Domain` for kept cells.
use Rattle.std.specs.Prelude.{ℕ}
use Rattle.std.proofs.Common.{arith}
use Rattle.intervals.specs.Domain.{Entry}
use Rattle.abs_state.specs.Cell.{HoldsCell, CoversCell, hull_of_cells}
use Rattle.abs_state.specs.declared.cell.KeptCell.{KeptCell}

pub cell_covers_itself : (a : KeptCell) → CoversCell a a
cell_covers_itself a = omega arith

pub cell_covers_along : (a b c : KeptCell) → CoversCell a b → CoversCell b c → CoversCell a c
cell_covers_along a b c h k = omega arith

pub cell_holds_wider : (a b : KeptCell) (entry : Entry) (v : ℕ) → CoversCell a b → HoldsCell b entry v → HoldsCell a entry v
cell_holds_wider a b entry v h k = omega arith

pub cell_hull_covers_first : (a b : KeptCell) → CoversCell (hull_of_cells a b) a
cell_hull_covers_first a b = omega arith

pub cell_hull_covers_second : (a b : KeptCell) → CoversCell (hull_of_cells a b) b
cell_hull_covers_second a b = omega arith
