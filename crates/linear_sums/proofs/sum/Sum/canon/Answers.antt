use Rattle.std.proofs.Common.{◌+◌, ◌*◌, ◌∙◌, ◌+ℤ◌, ◌*ℤ◌, ℤ, ap, refl, rules, arith, unsigned_abs, take, FitsSigned, to_z}
use Rattle.std.specs.Int.{w128}
use Rattle.std.proofs.lemmas.Int.{to_z-of_z, fits_signed_from_abs}
use Rattle.loop_bounds.proofs.Signed.{sum_fits, sum_kept}
use Rattle.loop_bounds.specs.Linear.{total}
use Rattle.linear_sums.specs.Bytes.{byte_form}
use Rattle.linear_sums.specs.Canon.{share}
use Rattle.linear_sums.proofs.Loops.{IsTotalSoFar, total_more, total_small, total_whole}
use Rattle.linear_sums.proofs.sum.Sum.canon.Given.{Over}
use Rattle.linear_sums.proofs.sum.Sum.canon.Goals as goal

next : (g : Over) (c : goal.After-times-sum g) → IsTotalSoFar (byte_form (share (g.R.Ranges.range_of c.args.ranges.now) c.args.at.now)) c.start-sum.result (to_z w128 c.loop-term.sum-bits +ℤ c.times-sum.result) (take (c.loop-term.term-index + 1) c.terms-term-items.result.now)
next g c =
    let f1 : FitsSigned w128 c.coefficient.result = search rules in
    let f2 : FitsSigned w128 c.share_by_bytes-share.result = search rules in
    let f3 : FitsSigned w128 c.start-sum.result = search rules in
    let product = simp to_z-of_z at c.times-sum.ensures.value in
    let size = simp to_z-of_z at c.times-sum.ensures.size in
    let before = simp to_z-of_z at c.loop-term.invariant in
    total_more _ c.start-sum.result _ c.terms-term-items.result.now c.loop-term.term-index c.term-item.result c.share_by_bytes-share.result c.times-sum.result before c.loop-term-test.true c.term-item.is
    (c.share_by_bytes-share.ensures.value ∙ ap (byte_form (share (g.R.Ranges.range_of c.args.ranges.now) c.args.at.now)) c.variable.ensures)
    c.share_by_bytes-share.ensures.size
    (product ∙ ap (λ (z : ℤ). z *ℤ c.share_by_bytes-share.result) c.coefficient.ensures)
    (size ∙ ap (λ (z : ℤ). unsigned_abs z * unsigned_abs c.share_by_bytes-share.result) c.coefficient.ensures)

fits : (g : Over) (c : goal.After-times-sum g) → FitsSigned w128 (to_z w128 c.loop-term.sum-bits +ℤ c.times-sum.result)
fits g c =
    let small = total_small _ c.start-sum.result _ c.args.self.now c.terms-term-items.result.now (c.loop-term.term-index + 1) (next g c) c.terms-term-items.ensures.value c.terms-term-items.ensures.made c.start-sum.ensures.size in
    fits_signed_from_abs w128 _ (omega arith)

pub overflow_add-sum : goal.overflow_add-sum
overflow_add-sum g c =
    let f : FitsSigned w128 c.times-sum.result = search rules in
    sum_fits c.loop-term.sum-bits _ _ refl f (fits g c)

pub loop-term-preserved : goal.loop-term-preserved
loop-term-preserved g c =
    let f : FitsSigned w128 c.times-sum.result = search rules in
    let f3 : FitsSigned w128 c.start-sum.result = search rules in
    rw (sum_kept c.loop-term.sum-bits _ _ refl f (fits g c)) (simp to_z-of_z (next g c))

pub returns-clause-value : goal.returns-clause-value
returns-clause-value g c =
    let f3 : FitsSigned w128 c.start-sum.result = search rules in
    let before = simp to_z-of_z at c.loop-term.invariant in
    total_whole _ c.start-sum.result _ c.args.self.now c.terms-term-items.result.now c.loop-term.term-index before c.terms-term-items.ensures.value c.loop-term-test.false
    ∙ ap (λ (z : ℤ). z +ℤ total (byte_form (share (g.R.Ranges.range_of c.args.ranges.now) c.args.at.now)) c.args.self.now.terms) c.start-sum.ensures.value

pub returns-clause-size : goal.returns-clause-size
returns-clause-size g c =
    let f3 : FitsSigned w128 c.start-sum.result = search rules in
    let before = simp to_z-of_z at c.loop-term.invariant in
    total_small _ c.start-sum.result _ c.args.self.now c.terms-term-items.result.now c.loop-term.term-index before c.terms-term-items.ensures.value c.terms-term-items.ensures.made c.start-sum.ensures.size
