use Rattle.abs_laws.proofs.Enables.{enable_stays, enable_stays_clear}
use Rattle.abs_laws.proofs.data_writes.clear_enables_stay.Goals as goal

pub returns-clause-clear : goal.returns-clause-clear
returns-clause-clear c = enable_stays_clear

pub returns-clause-kept : goal.returns-clause-kept
returns-clause-kept c = enable_stays
