use Rattle.std.proofs.Common.{◌≡◌, ap, rules, arith, FitsSigned}
use Rattle.std.specs.Int.{w32, w128}
use Rattle.std.proofs.lemmas.Int.{ints}
use Rattle.loop_bounds.specs.Form.{least_total}
use Rattle.loop_bounds.specs.Tighten.{greatest_total}
use Rattle.linear_limits.proofs.SpanLemmas.{above_least_value, below_greatest_value}
use Rattle.linear_limits.proofs.spans.extremes.Goals as goal

pub returns-clause-not_below : goal.returns-clause-not_below
returns-clause-not_below g c = λ x inside.
    let box = g.R.Ranges.range_of c.args.ranges.now in
    let small : FitsSigned w128 c.span-least.result.0 = search rules in
    let wide : FitsSigned w128 c.from-constant.result = search rules in
    let narrow : FitsSigned w32 c.constant.result = search rules in
    let terms : least_total box c.terms.result.now ≡ least_total box c.args.linear.now.terms = ap (least_total box) c.terms.ensures.value in
    let bound = above_least_value box c.args.linear.now x inside in
    omega (arith, ints, bound, terms, c.span-least.ensures.least, c.span-least.ensures.least_size, c.from-constant.ensures, c.constant.ensures.value, c.constant.ensures.linear.constant)

pub returns-clause-not_above : goal.returns-clause-not_above
returns-clause-not_above g c = λ x inside.
    let box = g.R.Ranges.range_of c.args.ranges.now in
    let small : FitsSigned w128 c.span-least.result.1 = search rules in
    let wide : FitsSigned w128 c.from-constant.result = search rules in
    let narrow : FitsSigned w32 c.constant.result = search rules in
    let terms : greatest_total box c.terms.result.now ≡ greatest_total box c.args.linear.now.terms = ap (greatest_total box) c.terms.ensures.value in
    let bound = below_greatest_value box c.args.linear.now x inside in
    omega (arith, ints, bound, terms, c.span-least.ensures.greatest, c.span-least.ensures.greatest_size, c.from-constant.ensures, c.constant.ensures.value, c.constant.ensures.linear.constant)
