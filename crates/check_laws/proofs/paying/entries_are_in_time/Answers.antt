use Rattle.check_laws.proofs.PayLemmas.{entry_in_time}
use Rattle.check_laws.proofs.paying.entries_are_in_time.Goals as goal

pub returns : goal.returns
returns c = entry_in_time
