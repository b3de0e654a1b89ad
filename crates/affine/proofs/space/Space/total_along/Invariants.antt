use Rattle.std.proofs.Common.{◌≡◌, ◌*◌, ◌≤◌, ◌^◌, take, unsigned_abs}
use Rattle.loop_bounds.specs.Linear.{total}
use Rattle.loop_bounds.specs.Variable.{rank_of}
use Rattle.affine.specs.Space.{coefficient_at}
use Rattle.affine.proofs.space.Space.total_along.Given as goal

abbrev pub invariant-loop-term : goal.invariant-loop-term
invariant-loop-term l = (l.sum ≡ total (λ v. coefficient_at l.self (rank_of v) l.index) (take l.term-index l.terms)) × (unsigned_abs l.sum ≤ 2 ^ 51 * l.term-index)
