use Rattle.check_rules.proofs.Order.{told_ok}
use Rattle.check_rules.proofs.rows.check_step.Goals as goal

pub returns-in-Ok-clause-ok : goal.returns-in-Ok-clause-ok
returns-in-Ok-clause-ok c = told_ok c.args.subject.now c.check_going.result c.check_going.ensures.told
