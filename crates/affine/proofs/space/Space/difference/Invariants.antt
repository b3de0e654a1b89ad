use Rattle.std.proofs.Common.{◌≡◌, ℕ, ◌<◌, length, pos, ◌-ℤ◌, slice_index_or}
use Rattle.affine.specs.Space.{coordinate_at}
use Rattle.affine.proofs.space.Space.difference.Given as goal

abbrev pub invariant-loop-rank : goal.invariant-loop-rank
invariant-loop-rank l = (length l.entries ≡ 48) × ((rank : ℕ) → rank < l.rank → slice_index_or l.entries rank (pos 0) ≡ coordinate_at l.other rank -ℤ coordinate_at l.self rank)
