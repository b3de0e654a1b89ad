use Rattle.check_laws.proofs.PayLemmas.{way_paid}
use Rattle.check_laws.proofs.paying.ways_are_paid.Goals as goal

pub returns : goal.returns
returns c = way_paid
