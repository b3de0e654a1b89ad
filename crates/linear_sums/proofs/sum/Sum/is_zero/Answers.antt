use Rattle.std.proofs.Common.{◌∙◌, sym, rules, IsTrue, None, Some, FitsSigned}
use Rattle.std.specs.Int.{w128}
use Rattle.std.proofs.lemmas.Int.{to_z-of_z}
use Rattle.linear_sums.specs.Canon.{IsZeroIn}
use Rattle.linear_sums.proofs.CanonLemmas.{value_of_zero}
use Rattle.linear_sums.proofs.MultipleLemmas.{zero_at_all, none_from}
use Rattle.linear_sums.proofs.sum.Sum.is_zero.Goals as goal

pub returns-then-not-is_equal-clause-exact : goal.returns-then-not-is_equal-clause-exact
returns-then-not-is_equal-clause-exact g c =
    let box = g.R.Ranges.range_of c.args.ranges.now in
    let f1 : FitsSigned w128 c.canon.result = search rules in
    let test = simp to_z-of_z at c.is_equal.ensures in
    none_from (IsZeroIn box c.args.self.now) c.is_equal.result (search rules) (λ h. test.1 (c.canon.ensures.value ∙ h None))

pub returns-in-None-clause-exact : goal.returns-in-None-clause-exact
returns-in-None-clause-exact g c =
    let box = g.R.Ranges.range_of c.args.ranges.now in
    let f1 : FitsSigned w128 c.canon.result = search rules in
    let test = simp to_z-of_z at c.is_equal.ensures in
    let equal : IsTrue c.is_equal.result = search rules in
    (λ t. zero_at_all box c.args.self.now (sym c.canon.ensures.value ∙ test.0 equal) c.in-None.ensures, λ h. search rules)

pub returns-in-None-clause-true_of_values : goal.returns-in-None-clause-true_of_values
returns-in-None-clause-true_of_values g c = λ t x bytes known.
    let box = g.R.Ranges.range_of c.args.ranges.now in
    let f1 : FitsSigned w128 c.canon.result = search rules in
    let test = simp to_z-of_z at c.is_equal.ensures in
    let equal : IsTrue c.is_equal.result = search rules in
    value_of_zero box x bytes known c.args.self.now (zero_at_all box c.args.self.now (sym c.canon.ensures.value ∙ test.0 equal) c.in-None.ensures)

pub returns-in-Some-clause-exact : goal.returns-in-Some-clause-exact
returns-in-Some-clause-exact g c =
    (λ f. absurd (search rules), λ h. absurd (c.in-Some.ensures (h (Some c.in-Some._there))))
