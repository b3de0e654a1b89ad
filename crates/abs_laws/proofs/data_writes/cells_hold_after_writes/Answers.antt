use Rattle.abs_laws.proofs.CellsAfter.{cells_hold}
use Rattle.abs_laws.proofs.data_writes.cells_hold_after_writes.Goals as goal

pub returns : goal.returns
returns c = cells_hold
