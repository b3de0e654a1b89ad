use Rattle.std.proofs.Common.{◌≡◌, ℕ, ◌<◌, length, pos, slice_index_or}
use Rattle.affine.specs.Space.{coefficient_at}
use Rattle.affine.proofs.space.Space.direction.Given as goal

abbrev pub invariant-loop-rank : goal.invariant-loop-rank
invariant-loop-rank l = (length l.entries ≡ 48) × ((rank : ℕ) → rank < l.rank → slice_index_or l.entries rank (pos 0) ≡ coefficient_at l.self rank l.index)
