use Rattle.std.proofs.Common.{◌≡◌, ℕ, ◌<◌, pos, ◌*ℤ◌, slice_index_or}
use Rattle.affine.specs.Space.{combination, coefficient_at, KnowsAt}
use Rattle.tracked_variables.specs.Vector.{entry_at}
use Rattle.affine.proofs.space.Space.spans.Given as goal

abbrev pub invariant-loop-rank : goal.invariant-loop-rank
invariant-loop-rank l = (r : ℕ) → r < l.rank → KnowsAt l.self r → l.scale *ℤ entry_at l.vector r ≡ combination l.self.count (λ i. slice_index_or l.factors i (pos 0)) (coefficient_at l.self r)
