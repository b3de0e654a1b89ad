use Rattle.std.proofs.Common.{take}
use Rattle.check_ways.specs.Parts.{CostsExit, IsAmong}
use Rattle.check_ways.specs.Pays.{IsGreatest}
use Rattle.check_walks.proofs.walks.greatest_exit.Given as goal

-- the most T-states of an exit so far
abbrev pub invariant-loop-next : goal.invariant-loop-next
invariant-loop-next l = IsGreatest (IsAmong (take l.next-index l.nexts) CostsExit) l.greatest
