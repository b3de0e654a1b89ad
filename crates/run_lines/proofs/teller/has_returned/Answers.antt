use Rattle.run_lines.proofs.FollowLemmas.{says_some}
use Rattle.run_lines.proofs.teller.has_returned.Goals as goal

pub returns : goal.returns
returns c = λ hardware s new env kind known step.
    says_some hardware s new env c.args.event.now c.args.known.now c.returned_after.result kind known step c.returned_after.ensures
