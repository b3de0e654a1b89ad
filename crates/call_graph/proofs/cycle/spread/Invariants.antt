use Rattle.std.proofs.Common.{◌≡◌, ◌≢◌, ℕ, ◌+◌, ◌<◌, length}
use Rattle.call_graph.specs.Walk.{caller_at, callee_of_edge}
use Rattle.call_graph.specs.Cycle.{Searched, PlaceInCycle, left, step_proc, step_from, step_far}
use Rattle.call_graph.proofs.cycle.spread.Given as goal

abbrev pub invariant-loop-number : goal.invariant-loop-number
invariant-loop-number l = record {
  searched : Searched l.calls l.start l.seen l.steps.items l.at;
  inside : l.at < length l.steps.items;
  proc_is : step_proc l.steps.items l.at ≡ l.step.proc;
  far_is : step_far l.steps.items l.at ≡ l.step.far;
  so_far : (i : ℕ) → i < l.number → i < length l.calls → caller_at l.calls i ≡ l.step.proc → (callee_of_edge l.calls i ≢ l.start) × PlaceInCycle l.steps.items (callee_of_edge l.calls i) (step_far l.steps.items l.at + 1) l.at;
  others : (j : ℕ) → 0 < j → j < length l.steps.items → step_from l.steps.items j ≡ l.at → (i : ℕ) × (i < l.number) × (i < length l.calls) × (caller_at l.calls i ≡ l.step.proc) × (callee_of_edge l.calls i ≡ step_proc l.steps.items j);
  same : left l.seen l.steps.items ≡ left l.initial.seen l.initial.steps.items;
}
