use Rattle.check_ways.proofs.RestartLemmas.{timed_stays}
use Rattle.check_walks.proofs.WalkLemmas.{greatest_between}
use Rattle.check_walks.proofs.walks.cost_between.Goals as goal

pub returns-then-is_walked : goal.returns-then-is_walked
returns-then-is_walked c =
    greatest_between c.args.subject.now c.args.nexts.now c.args.target.now c.greatest_cost.result c.requires.step (c.is_walked.ensures.0 c.if-is_walked.true)
    c.greatest_cost.ensures

pub greatest_cost-requires-clause-stays : goal.greatest_cost-requires-clause-stays
greatest_cost-requires-clause-stays c = timed_stays c.args.subject.now (c.is_walked.ensures.0 c.if-is_walked.true).timed
