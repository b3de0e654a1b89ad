use Rattle.std.proofs.Common.{rules, FitsSigned, None}
use Rattle.std.specs.Int.{w128}
use Rattle.std.proofs.lemmas.Int.{to_z-of_z}
use Rattle.linear_sums.specs.Canon.{AreProportional}
use Rattle.linear_sums.proofs.MultipleLemmas.{agree_at_all, none_from, proportional_if}
use Rattle.linear_sums.proofs.multiples.are_proportional.Goals as goal

pub returns-then-not-agree_at : goal.returns-then-not-agree_at
returns-then-not-agree_at g c =
    let box = g.R.Ranges.range_of c.args.ranges.now in
    let f1 : FitsSigned w128 c.args.a_factor = search rules in
    let f2 : FitsSigned w128 c.args.b_factor = search rules in
    let test = simp to_z-of_z at c.agree_at.ensures in
    none_from (AreProportional box c.args.a_factor c.args.a.now c.args.b_factor c.args.b.now) c.agree_at.result (search rules) (λ h. test.1 (h None))

pub returns-then-not-agree_at_terms : goal.returns-then-not-agree_at_terms
returns-then-not-agree_at_terms g c =
    let box = g.R.Ranges.range_of c.args.ranges.now in
    let f1 : FitsSigned w128 c.args.a_factor = search rules in
    let f2 : FitsSigned w128 c.args.b_factor = search rules in
    let test = simp to_z-of_z at c.agree_at_terms.ensures in
    none_from (AreProportional box c.args.a_factor c.args.a.now c.args.b_factor c.args.b.now) c.agree_at_terms.result (search rules) (λ h. test.1 (agree_at_all box c.args.a_factor c.args.a.now c.args.b_factor c.args.b.now c.terms.result.now h))

pub returns : goal.returns
returns g c =
    let box = g.R.Ranges.range_of c.args.ranges.now in
    let f1 : FitsSigned w128 c.args.a_factor = search rules in
    let f2 : FitsSigned w128 c.args.b_factor = search rules in
    let constant = simp to_z-of_z at c.agree_at.ensures in
    let first = simp to_z-of_z at c.agree_at_terms.ensures in
    let last = simp to_z-of_z at c.agree_at_terms-2.ensures in
    let both = proportional_if box c.args.a_factor c.args.a.now c.args.b_factor c.args.b.now c.terms.result.now c.terms-2.result.now c.agree_at.result c.agree_at_terms.result c.agree_at_terms-2.result c.terms.ensures.value c.terms-2.ensures.value (search rules) constant.0 (search rules) first.0 last.0 in
    (both.0, λ h. last.1 (both.1 h))
