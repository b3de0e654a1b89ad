use Rattle.std.proofs.Common.{◌≢◌}
use Rattle.call_graph.specs.Walk.{IsWalkOf, StaysSeen, mark_at, work}
use Rattle.call_graph.specs.declared.walk.Mark.TheVariants.{Unseen}
use Rattle.call_graph.proofs.walk.Walk.visit.Given as goal

abbrev pub invariant-loop-self : goal.invariant-loop-self
invariant-loop-self l = record {
  holds : IsWalkOf l.calls l.self;
  seen : mark_at l.self.marks.items l.proc ≢ Unseen;
  stays : StaysSeen l.fn.self l.self;
}

abbrev pub decreases-loop-self : goal.decreases-loop-self
decreases-loop-self l = work l.calls l.self
