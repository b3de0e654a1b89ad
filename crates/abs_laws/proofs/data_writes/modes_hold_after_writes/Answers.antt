use Rattle.abs_laws.proofs.Enables.{mode_holds, nmi_stays, set_stays, unset_stays}
use Rattle.abs_laws.proofs.data_writes.modes_hold_after_writes.Goals as goal

pub returns-clause-holds : goal.returns-clause-holds
returns-clause-holds c = mode_holds

pub returns-clause-nmi : goal.returns-clause-nmi
returns-clause-nmi c = nmi_stays

pub returns-clause-unset : goal.returns-clause-unset
returns-clause-unset c = unset_stays

pub returns-clause-other : goal.returns-clause-other
returns-clause-other c = set_stays
