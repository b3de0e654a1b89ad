use Rattle.check_laws.proofs.Whole.{safe}
use Rattle.check_laws.proofs.accepted.accepted_is_safe.Goals as goal

pub returns : goal.returns
returns c = safe
