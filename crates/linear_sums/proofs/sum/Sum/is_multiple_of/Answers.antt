use Rattle.std.proofs.Common.{◌∙◌, sym, rules, inl, IsTrue, FitsSigned}
use Rattle.std.specs.Int.{w128}
use Rattle.std.proofs.lemmas.Int.{to_z-of_z}
use Rattle.linear_sums.proofs.MultipleLemmas.{zero_at_all, multiple_value}
use Rattle.linear_sums.proofs.sum.Sum.is_multiple_of.Goals as goal

pub is_multiple_at-requires : goal.is_multiple_at-requires
is_multiple_at-requires g c = λ e.
    let f1 : FitsSigned w128 c.canon.result = search rules in
    let test = simp to_z-of_z at c.is_equal.ensures in
    let equal : IsTrue c.is_equal.result = test.1 (c.canon.ensures.value ∙ e) in
    search rules

pub returns-then-not-is_equal-clause-true_of_values : goal.returns-then-not-is_equal-clause-true_of_values
returns-then-not-is_equal-clause-true_of_values g c = λ t x bytes known.
    multiple_value (g.R.Ranges.range_of c.args.ranges.now) c.args.self.now c.args.other.now (c.is_multiple_at.ensures.0 t) x bytes known

pub returns-in-Some-clause-true_of_values : goal.returns-in-Some-clause-true_of_values
returns-in-Some-clause-true_of_values g c = λ t x bytes known.
    multiple_value (g.R.Ranges.range_of c.args.ranges.now) c.args.self.now c.args.other.now (c.is_multiple_at-in-Some.ensures.0 t) x bytes known

pub returns-in-None-clause-exact : goal.returns-in-None-clause-exact
returns-in-None-clause-exact g c =
    let box = g.R.Ranges.range_of c.args.ranges.now in
    let f1 : FitsSigned w128 c.canon.result = search rules in
    let test = simp to_z-of_z at c.is_equal.ensures in
    let equal : IsTrue c.is_equal.result = search rules in
    (λ t. inl (zero_at_all box c.args.self.now (sym c.canon.ensures.value ∙ test.0 equal) c.in-None.ensures), λ h. search rules)

pub returns-in-None-clause-true_of_values : goal.returns-in-None-clause-true_of_values
returns-in-None-clause-true_of_values g c = λ t x bytes known.
    let box = g.R.Ranges.range_of c.args.ranges.now in
    let f1 : FitsSigned w128 c.canon.result = search rules in
    let test = simp to_z-of_z at c.is_equal.ensures in
    let equal : IsTrue c.is_equal.result = search rules in
    multiple_value box c.args.self.now c.args.other.now (inl (zero_at_all box c.args.self.now (sym c.canon.ensures.value ∙ test.0 equal) c.in-None.ensures)) x bytes known
