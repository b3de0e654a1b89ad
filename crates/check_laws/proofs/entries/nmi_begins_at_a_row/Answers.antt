use Rattle.check_laws.proofs.EntryLemmas.{nmi_begins}
use Rattle.check_laws.proofs.entries.nmi_begins_at_a_row.Goals as goal

pub returns : goal.returns
returns c = nmi_begins
