use Rattle.std.proofs.Common.{◌≡◌, drop}
use Rattle.abs_draft.specs.Ground.{cell_at}
use Rattle.abs_draft.proofs.ground.cell_at.Given as goal

abbrev pub invariant-loop-cell : goal.invariant-loop-cell
invariant-loop-cell l = cell_at l.map l.address l.cells ≡ cell_at l.map l.address (drop l.cell-index l.cells)
