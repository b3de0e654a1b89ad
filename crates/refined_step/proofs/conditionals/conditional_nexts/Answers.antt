use Rattle.refined_step.proofs.Flags.{both_narrow}
use Rattle.refined_step.proofs.conditionals.conditional_nexts.Goals as goal

pub returns-clause-holds : goal.returns-clause-holds
returns-clause-holds c = both_narrow c.args.condition c.args.parts.now c.args.state.now c.conditional_way-taken.ensures.holds c.conditional_way-left.ensures.holds
