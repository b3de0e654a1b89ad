use Rattle.path_time.proofs.TableLemmas.{HasExitsOf}
use Rattle.path_time.proofs.ahead.exits_of.Given as goal

-- the exits of the rows so far
abbrev pub invariant-loop-row : goal.invariant-loop-row
invariant-loop-row l = HasExitsOf l.rom l.certificate l.initial.row l.row l.row-end l.table.items
