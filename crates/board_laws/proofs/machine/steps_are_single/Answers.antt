use Rattle.board_step.proofs.SingleLemmas.{one_event, one_state, one_trap}
use Rattle.board_laws.proofs.machine.steps_are_single.Goals as goal

pub returns-clause-event : goal.returns-clause-event
returns-clause-event c = one_event

pub returns-clause-state : goal.returns-clause-state
returns-clause-state c = one_state

pub returns-clause-trap : goal.returns-clause-trap
returns-clause-trap c = one_trap
