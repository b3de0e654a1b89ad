use Rattle.check_laws.proofs.EntryLemmas.{main_begins}
use Rattle.check_laws.proofs.entries.main_begins_at_a_row.Goals as goal

pub returns : goal.returns
returns c = main_begins
