use Rattle.std.proofs.Common.{◌<◌, ◌^◌, ◌+◌, ◌∙◌, ◌+ℤ◌, pos, ap, refl, rules, arith, unsigned_abs, take, FitsSigned, to_z}
use Rattle.std.specs.Int.{w32, w128}
use Rattle.std.proofs.lemmas.Int.{to_z-of_z, fits_signed_from_abs, unsigned_abs-mul}
use Rattle.loop_bounds.proofs.Signed.{sum_fits, sum_kept}
use Rattle.linear_sums.proofs.Loops.{IsTotalSoFar, total_more}
use Rattle.flag_parts.specs.Excluding.{known_part}
use Rattle.flag_parts.proofs.ExcludingLemmas.{known_small, known_whole}
use Rattle.flag_parts.proofs.excluding.known_value.Given.{Over}
use Rattle.flag_parts.proofs.excluding.known_value.Goals as goal

next : (g : Over) (c : goal.After-multiple-sum g) → IsTotalSoFar (known_part (g.R.Ranges.range_of c.args.ranges.now)) c.args.linear.now.constant (to_z w128 c.loop-term.sum-bits +ℤ c.multiple-sum.result) (take (c.loop-term.term-index + 1) c.terms-term-items.result.now)
next g c =
    let f1 : FitsSigned w32 c.term-item.result.coefficient = search rules in
    let product = simp to_z-of_z at c.multiple-sum.ensures.value in
    let small : unsigned_abs (pos c.known_part.result) < 2 ^ 25 = omega arith in
    total_more _ c.args.linear.now.constant _ c.terms-term-items.result.now c.loop-term.term-index c.term-item.result (pos c.known_part.result) c.multiple-sum.result c.loop-term.invariant c.loop-term-test.true c.term-item.is
    c.known_part.ensures small product
    (ap unsigned_abs product ∙ unsigned_abs-mul c.term-item.result.coefficient (pos c.known_part.result))

fits : (g : Over) (c : goal.After-multiple-sum g) → FitsSigned w128 (to_z w128 c.loop-term.sum-bits +ℤ c.multiple-sum.result)
fits g c =
    let small = known_small _ _ c.args.linear.now c.terms-term-items.result.now (c.loop-term.term-index + 1) (next g c) c.terms-term-items.ensures.value c.terms-term-items.ensures.linear in
    fits_signed_from_abs w128 _ (omega arith)

pub overflow_add-sum : goal.overflow_add-sum
overflow_add-sum g c =
    let f : FitsSigned w128 c.multiple-sum.result = search rules in
    sum_fits c.loop-term.sum-bits _ _ refl f (fits g c)

pub loop-term-preserved : goal.loop-term-preserved
loop-term-preserved g c =
    let f : FitsSigned w128 c.multiple-sum.result = search rules in
    rw (sum_kept c.loop-term.sum-bits _ _ refl f (fits g c)) (next g c)

pub returns-clause-value : goal.returns-clause-value
returns-clause-value g c =
    known_whole _ _ c.args.linear.now c.terms-term-items.result.now c.loop-term.term-index c.loop-term.invariant c.terms-term-items.ensures.value c.loop-term-test.false

pub returns-clause-size : goal.returns-clause-size
returns-clause-size g c =
    known_small _ _ c.args.linear.now c.terms-term-items.result.now c.loop-term.term-index c.loop-term.invariant c.terms-term-items.ensures.value c.terms-term-items.ensures.linear
