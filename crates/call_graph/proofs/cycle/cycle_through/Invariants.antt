use Rattle.call_graph.specs.Cycle.{Searched, NoneFrom, left}
use Rattle.std.proofs.Common.{◌-◌}
use Rattle.call_graph.proofs.cycle.cycle_through.Given as goal

abbrev pub invariant-loop-at : goal.invariant-loop-at
invariant-loop-at l = Searched l.calls l.start l.seen.items l.steps.items l.at × NoneFrom l.steps.items l.at

abbrev pub decreases-loop-at : goal.decreases-loop-at
decreases-loop-at l = left l.seen.items l.steps.items - l.at
