use Rattle.board_laws.proofs.Times.{accepts_latched, early, unlatched_since}
use Rattle.board_laws.proofs.clock.acceptances_begin_early.Goals as goal

pub returns-clause-latched : goal.returns-clause-latched
returns-clause-latched c = accepts_latched

pub returns-clause-early : goal.returns-clause-early
returns-clause-early c = early

pub returns-clause-unlatched : goal.returns-clause-unlatched
returns-clause-unlatched c = unlatched_since
