use Rattle.linear_sums.proofs.MultipleLemmas.{same_values, same_from_proportional, proportional_from_same}
use Rattle.linear_sums.proofs.sum.Sum.is_same.Goals as goal

pub returns-clause-exact : goal.returns-clause-exact
returns-clause-exact g c =
    let box = g.R.Ranges.range_of c.args.ranges.now in (
      λ t. same_from_proportional box c.args.self.now c.args.other.now (c.are_proportional.ensures.0 t),
      λ h. c.are_proportional.ensures.1 (proportional_from_same box c.args.self.now c.args.other.now h),
    )

pub returns-clause-true_of_values : goal.returns-clause-true_of_values
returns-clause-true_of_values g c = λ t x bytes known.
    let box = g.R.Ranges.range_of c.args.ranges.now in
    same_values box c.args.self.now c.args.other.now (same_from_proportional box c.args.self.now c.args.other.now (c.are_proportional.ensures.0 t)) x bytes known
