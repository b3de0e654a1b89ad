use Rattle.path_time.specs.Table.{IsFilled}
use Rattle.path_time.proofs.ahead.table_along.Given as goal

-- the table is filled up to this place in the order
abbrev pub invariant-loop-row : goal.invariant-loop-row
invariant-loop-row l = IsFilled l.rom l.certificate l.proc l.order l.row-index l.table.items
