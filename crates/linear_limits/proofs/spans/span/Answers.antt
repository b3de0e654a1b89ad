use Rattle.std.proofs.Common.{◌≤◌, ◌*◌, unsigned_abs, rules, refl, arith, FitsSigned}
use Rattle.std.specs.Int.{w128}
use Rattle.loop_bounds.proofs.Boxes.{least_more, least_fits}
use Rattle.loop_bounds.proofs.TightenLemmas.{greatest_more, greatest_fits, light_terms, least_end, greatest_end}
use Rattle.loop_bounds.proofs.Signed.{fits_128, sum_fits, sum_kept}
use Rattle.linear_limits.proofs.spans.span.Goals as goal

pub overflow_add-least : goal.overflow_add-least
overflow_add-least g c =
    let light = light_terms c.args.terms.now c.requires.few c.requires.small in
    let m = c.least_product-least in
    let m_small : unsigned_abs m.result ≤ 65535 * unsigned_abs c.term-item.result.coefficient = search rules in
    let next = least_more _ _ _ _ c.term-item.result c.range-range.result _ m.result c.loop-term.invariant.0 c.loop-term-test.true c.term-item.is (search rules) (search rules) m_small m.ensures.order in
    let small = least_fits _ _ _ _ _ next (search rules) light in
    let fits : FitsSigned w128 m.result = search rules in
    sum_fits c.loop-term.least-bits _ _ refl fits (fits_128 _ (omega arith))

pub overflow_add-greatest : goal.overflow_add-greatest
overflow_add-greatest g c =
    let light = light_terms c.args.terms.now c.requires.few c.requires.small in
    let m = c.greatest_product-greatest in
    let m_small : unsigned_abs m.result ≤ 65535 * unsigned_abs c.term-item.result.coefficient = search rules in
    let next = greatest_more _ _ _ c.term-item.result c.range-range.result _ m.result c.loop-term.invariant.1 c.loop-term-test.true c.term-item.is (search rules) (search rules) m_small in
    let small = greatest_fits _ _ _ _ next light in
    let fits : FitsSigned w128 m.result = search rules in
    sum_fits c.loop-term.greatest-bits _ _ refl fits (fits_128 _ (omega arith))

pub loop-term-preserved : goal.loop-term-preserved
loop-term-preserved g c =
    let light = light_terms c.args.terms.now c.requires.few c.requires.small in
    let m = c.least_product-least in
    let m_small : unsigned_abs m.result ≤ 65535 * unsigned_abs c.term-item.result.coefficient = search rules in
    let next = least_more _ _ _ _ c.term-item.result c.range-range.result _ m.result c.loop-term.invariant.0 c.loop-term-test.true c.term-item.is (search rules) (search rules) m_small m.ensures.order in
    let small = least_fits _ _ _ _ _ next (search rules) light in
    let fits : FitsSigned w128 m.result = search rules in
    let m' = c.greatest_product-greatest in
    let m'_small : unsigned_abs m'.result ≤ 65535 * unsigned_abs c.term-item.result.coefficient = search rules in
    let next' = greatest_more _ _ _ c.term-item.result c.range-range.result _ m'.result c.loop-term.invariant.1 c.loop-term-test.true c.term-item.is (search rules) (search rules) m'_small in
    let small' = greatest_fits _ _ _ _ next' light in
    let fits' : FitsSigned w128 m'.result = search rules in (
      rw (sum_kept c.loop-term.least-bits _ _ refl fits (fits_128 _ (omega arith))) next,
      rw (sum_kept c.loop-term.greatest-bits _ _ refl fits' (fits_128 _ (omega arith))) next',
    )

pub returns-clause-least_size : goal.returns-clause-least_size
returns-clause-least_size g c = least_end _ c.args.terms.now _ _ c.loop-term.invariant.0 c.requires.few c.requires.small

pub returns-clause-greatest_size : goal.returns-clause-greatest_size
returns-clause-greatest_size g c = greatest_end _ c.args.terms.now _ _ c.loop-term.invariant.1 c.requires.few c.requires.small
