use Rattle.std.proofs.Common.{◌≡◌, ℕ, ◌+◌, ◌<◌, ◌++◌, List, length, reverse}
use Rattle.call_graph.specs.Cycle.{Traced, path_to, step_proc, step_far}
use Rattle.call_graph.specs.declared.edge.Edge.{Edge}
use Rattle.call_graph.proofs.CycleLemmas.{Trail}
use Rattle.call_graph.proofs.cycle.cycle_from.Given as goal

abbrev pub invariant-loop-place : goal.invariant-loop-place
invariant-loop-place l = record {
  inside : l.place < length l.steps;
  trail : (calls : List Edge) (start : ℕ) → Traced calls start l.steps → Trail calls (step_proc l.steps l.place) (reverse l.list.items) (step_proc l.steps l.at);
  long : (calls : List Edge) (start : ℕ) → Traced calls start l.steps → length l.list.items + step_far l.steps l.place ≡ step_far l.steps l.at;
  path : (calls : List Edge) (start : ℕ) → Traced calls start l.steps → path_to l.steps (step_far l.steps l.place) l.place ++ reverse l.list.items ≡ path_to l.steps (step_far l.steps l.at) l.at;
}

abbrev pub decreases-loop-place : goal.decreases-loop-place
decreases-loop-place l = l.place
