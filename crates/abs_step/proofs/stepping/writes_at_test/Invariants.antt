use Rattle.std.proofs.Common.{◌≡◌, ◌≤◌, take}
use Rattle.abs_step.proofs.stepping.writes_at_test.Given as goal

abbrev pub invariant-loop-write : goal.invariant-loop-write
invariant-loop-write l = (l.writes.items ≡ take l.write-index l.write-items) × (2 ≤ l.writes.capacity)
