use Rattle.std.proofs.Common.{◌≡◌, ℕ, ◌<◌, pos}
use Rattle.affine.specs.Space.{coefficient_at}
use Rattle.affine.proofs.space.Space.moves.Given as goal

abbrev pub invariant-loop-index : goal.invariant-loop-index
invariant-loop-index l = (i : ℕ) → i < l.index → coefficient_at l.self l.rank i ≡ pos 0
