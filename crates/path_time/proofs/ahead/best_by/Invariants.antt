use Rattle.std.proofs.Common.{take}
use Rattle.path_time.specs.Table.{IsBest}
use Rattle.path_time.proofs.ahead.best_by.Given as goal

-- the best by the links so far
abbrev pub invariant-loop-link : goal.invariant-loop-link
invariant-loop-link l = IsBest (take l.link-index l.links) l.table l.fn.before l.best
