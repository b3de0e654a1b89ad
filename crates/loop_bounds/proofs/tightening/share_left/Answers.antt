use Rattle.std.proofs.Common.{◌∙◌, ap, rules, FitsSigned, ℤ, ◌+ℤ◌, ◌-ℤ◌}
use Rattle.std.specs.Int.{w32, w128}
use Rattle.std.proofs.lemmas.Int.{to_z-of_z}
use Rattle.loop_bounds.specs.Form.{least_total}
use Rattle.loop_bounds.specs.Tighten.{greatest_total}
use Rattle.loop_bounds.proofs.TightenLemmas.{share_is}
use Rattle.loop_bounds.proofs.tightening.share_left.Goals as goal

pub returns : goal.returns
returns g c =
    let box = g.R.Ranges.range_of c.args.ranges.now in
    let fact = c.args.fact.now in
    let f1 : FitsSigned w32 c.args.term.now.coefficient = search rules in
    let f2 : FitsSigned w128 c.without.result = search rules in
    let f3 : FitsSigned w128 c.without-2.result = search rules in
    let f4 : FitsSigned w128 c.least_multiple.result = search rules in
    let f5 : FitsSigned w128 c.greatest_multiple.result = search rules in
    let f6 : FitsSigned w128 c.span-least.result.0 = search rules in
    let f7 : FitsSigned w128 c.span-least.result.1 = search rules in
    let f8 : FitsSigned w128 c.from-constant.result = search rules in
    let f9 : FitsSigned w32 c.constant.result = search rules in
    let is = simp to_z-of_z at c.balancing.ensures in
    let constant = simp to_z-of_z at c.from-constant.ensures in
    let low = simp to_z-of_z at c.without.ensures.value in
    let high = simp to_z-of_z at c.without-2.ensures.value in
    let lowest = simp to_z-of_z at c.least_multiple.ensures.value in
    let highest = simp to_z-of_z at c.greatest_multiple.ensures.value in
    let same = constant ∙ c.constant.ensures.value in
    share_is box fact c.args.place c.args.term.now c.range-range.result c.without.result c.without-2.result c.span-least.result.0 c.span-least.result.1
    c.least_multiple.result c.greatest_multiple.result c.balancing.result c.requires.place c.requires.term c.range-range.ensures
    (c.span-least.ensures.least ∙ ap (least_total box) c.terms.ensures.value)
    (c.span-least.ensures.greatest ∙ ap (greatest_total box) c.terms.ensures.value)
    lowest highest
    (low ∙ ap (λ (z : ℤ). z +ℤ c.span-least.result.0 -ℤ c.least_multiple.result) same)
    (high ∙ ap (λ (z : ℤ). z +ℤ c.span-least.result.1 -ℤ c.greatest_multiple.result) same) is
