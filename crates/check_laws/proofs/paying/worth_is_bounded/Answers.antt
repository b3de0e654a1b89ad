use Rattle.check_laws.proofs.PayLemmas.{worth_low}
use Rattle.check_laws.proofs.paying.worth_is_bounded.Goals as goal

pub returns : goal.returns
returns c = worth_low
