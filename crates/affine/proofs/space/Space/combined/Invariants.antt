use Rattle.std.proofs.Common.{◌≡◌, ◌*◌, ◌≤◌, ◌^◌, pos, unsigned_abs, slice_index_or}
use Rattle.affine.specs.Space.{combination, coefficient_at}
use Rattle.affine.proofs.space.Space.combined.Given as goal

abbrev pub invariant-loop-index : goal.invariant-loop-index
invariant-loop-index l = (l.sum ≡ combination l.index (λ i. slice_index_or l.factors i (pos 0)) (coefficient_at l.self l.rank)) × (unsigned_abs l.sum ≤ 2 ^ 59 * l.index)
