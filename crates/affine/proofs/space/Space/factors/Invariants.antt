use Rattle.std.proofs.Common.{◌≡◌, ◌≤◌, ◌^◌, All, length, unsigned_abs}
use Rattle.affine.proofs.space.Space.factors.Given as goal

abbrev pub invariant-loop-index : goal.invariant-loop-index
invariant-loop-index l = (length l.factors ≡ 8) × All (λ f. unsigned_abs f ≤ 2 ^ 44) l.factors
