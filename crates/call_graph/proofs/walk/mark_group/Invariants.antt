use Rattle.std.proofs.Common.{◌≡◌, ◌≢◌, ℕ, ◌<◌, ◌≤◌, ◌⊎◌, length, slice_index, sum_by}
use Rattle.call_graph.specs.Walk.{mark_at, mark_work}
use Rattle.call_graph.specs.declared.walk.Mark.TheVariants.{Done}
use Rattle.call_graph.proofs.walk.mark_group.Given as goal

abbrev pub invariant-loop-proc : goal.invariant-loop-proc
invariant-loop-proc l = record {
  room : length l.marks ≡ 65536;
  each : (p : ℕ) → ((i : ℕ) × (i < l.proc-index) × (slice_index l.procs i ≡ p) × (mark_at l.marks p ≡ Done l.group)) ⊎ ((mark_at l.marks p ≡ mark_at l.fn.marks p) × ((i : ℕ) → i < l.proc-index → slice_index l.procs i ≢ p));
  less : (count : ℕ) → sum_by (mark_work count) l.marks ≤ sum_by (mark_work count) l.fn.marks;
}
