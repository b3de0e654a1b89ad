use Rattle.std.proofs.Common.{◌≡◌, ℕ, ◌+◌, ◌<◌, ◌≤◌, length, slice_index}
use Rattle.call_graph.specs.Depths.{call_at}
use Rattle.call_graph.proofs.depth.depth_of.Given as goal

abbrev pub invariant-loop-at : goal.invariant-loop-at
invariant-loop-at l = record {
  own_bytes : l.fn.own ≤ l.depth;
  held_bytes : (i : ℕ) → i < l.at → i < length l.calls → (call_at l.calls i).caller ≡ l.proc → (call_at l.calls i).held + slice_index l.depths (call_at l.calls i).callee ≤ l.depth;
  least : (most : ℕ) → l.fn.own ≤ most → ((i : ℕ) → i < length l.calls → (call_at l.calls i).caller ≡ l.proc → (call_at l.calls i).held + slice_index l.depths (call_at l.calls i).callee ≤ most) → l.depth ≤ most;
  low : (most : ℕ) → ((i : ℕ) → i < length l.calls → (call_at l.calls i).caller ≡ l.proc → slice_index l.depths (call_at l.calls i).callee ≤ most) → l.depth ≤ most + 4294967296;
}
