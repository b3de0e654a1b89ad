use Rattle.check_ways.proofs.ExitLemmas.{has_one}
use Rattle.check_ways.proofs.subject.Subject.row_has_exit.Goals as goal

pub returns : goal.returns
returns c = has_one c.args.self.now c.args.id c.exit_at.result c.is_some.result c.exit_at.ensures c.is_some.ensures
