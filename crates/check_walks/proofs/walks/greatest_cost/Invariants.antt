use Rattle.std.proofs.Common.{take}
use Rattle.check_ways.specs.Parts.{IsAmong, LiesBy}
use Rattle.check_ways.specs.Pays.{IsGreatest}
use Rattle.check_walks.proofs.walks.greatest_cost.Given as goal

-- the most T-states between the rows by one of the successors so far
abbrev pub invariant-loop-next : goal.invariant-loop-next
invariant-loop-next l = IsGreatest (IsAmong (take l.next-index l.nexts) (LiesBy l.subject l.target)) l.greatest
