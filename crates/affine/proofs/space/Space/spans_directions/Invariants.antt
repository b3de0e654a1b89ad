use Rattle.std.proofs.Common.{ℕ, ◌<◌}
use Rattle.loop_bounds.specs.Variable.{rank_of}
use Rattle.affine.specs.Space.{coefficient_at, IsSpanned}
use Rattle.affine.proofs.space.Space.spans_directions.Given as goal

abbrev pub invariant-loop-index : goal.invariant-loop-index
invariant-loop-index l = (i : ℕ) → i < l.index → IsSpanned l.self (λ v. coefficient_at l.other (rank_of v) i)
