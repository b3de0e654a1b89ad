use Rattle.std.proofs.Common.{ℕ, ◌<◌}
use Rattle.call_graph.specs.Walk.{IsInGroup}
use Rattle.call_graph.proofs.walk.Walk.first_within.Given as goal

abbrev pub invariant-loop-edge : goal.invariant-loop-edge
invariant-loop-edge l = (j : ℕ) → j < l.edge-index → IsInGroup l.calls l.self.marks.items j → ⊥
