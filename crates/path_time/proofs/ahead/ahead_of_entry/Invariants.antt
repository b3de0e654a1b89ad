use Rattle.path_time.proofs.TableLemmas.{IsBestUpto}
use Rattle.path_time.proofs.ahead.ahead_of_entry.Given as goal

-- the best of the rows so far
abbrev pub invariant-loop-row : goal.invariant-loop-row
invariant-loop-row l = IsBestUpto l.table l.initial.row l.row l.row-end l.before l.best
