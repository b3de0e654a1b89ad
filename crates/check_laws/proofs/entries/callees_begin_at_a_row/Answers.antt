use Rattle.check_laws.proofs.EntryLemmas.{callee_begins}
use Rattle.check_laws.proofs.entries.callees_begin_at_a_row.Goals as goal

pub returns : goal.returns
returns c = callee_begins
