use Rattle.board_step.proofs.StateRangeLemmas.{reached_is_in_range, step_keeps}
use Rattle.board_laws.proofs.machine.states_stay_in_range.Goals as goal

pub returns-clause-step : goal.returns-clause-step
returns-clause-step c = step_keeps

pub returns-clause-reached : goal.returns-clause-reached
returns-clause-reached c = reached_is_in_range
