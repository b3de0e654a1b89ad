use Rattle.std.proofs.Common.{◌≡◌, ◌≢◌, ℕ, ◌<◌, length}
use Rattle.call_graph.specs.Walk.{IsWalkOf, caller_at, mark_at}
use Rattle.call_graph.specs.declared.walk.Mark.TheVariants.{Unseen}
use Rattle.call_graph.proofs.ordering.walk_along.Given as goal

abbrev pub invariant-loop-edge : goal.invariant-loop-edge
invariant-loop-edge l = record {
  holds : IsWalkOf l.calls l.walk;
  empty : length l.walk.path.items ≡ 0;
  seen : (i : ℕ) → i < l.edge-index → mark_at l.walk.marks.items (caller_at l.calls i) ≢ Unseen;
}
