use Rattle.std.proofs.Common.{◌≡◌, ℕ, ◌<◌, pos}
use Rattle.loop_bounds.specs.Linear.{total}
use Rattle.loop_bounds.specs.Variable.{rank_of}
use Rattle.affine.specs.Space.{coefficient_at}
use Rattle.affine.proofs.space.Space.has_zero.Given as goal

abbrev pub invariant-loop-index : goal.invariant-loop-index
invariant-loop-index l = (i : ℕ) → i < l.index → total (λ v. coefficient_at l.self (rank_of v) i) l.linear.terms ≡ pos 0
