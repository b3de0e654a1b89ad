use Rattle.std.proofs.Common.{◌≡◌, ℕ, ◌+◌, ◌<◌, ◌^◌, ◌*ℤ◌, pos, slice_index_or, rules, arith}
use Rattle.affine.specs.Space.{combination, coefficient_at}
use Rattle.affine.proofs.Sums.{sum_next, combination_next}
use Rattle.affine.proofs.space.Space.combined.Goals as goal

pub loop-index-preserved : goal.loop-index-preserved
loop-index-preserved c =
    let n = c.loop-index.index in
    let f = λ (i : ℕ). slice_index_or c.args.factors.now i (pos 0) in
    let g = coefficient_at c.args.self.now c.args.rank in
    let next : c.product-sum.result ≡ slice_index_or c.args.factors.now n (pos 0) *ℤ coefficient_at c.args.self.now c.args.rank n = search rules in
    let few : n < 8 = search rules in
    sum_next _ c.product-sum.result (2 ^ 59) n c.loop-index.invariant.1 c.product-sum.ensures.size (omega arith) (combination (n + 1) f g) (combination_next n f g _ c.product-sum.result c.loop-index.invariant.0 next)
