use Rattle.board_step.proofs.SingleLemmas.{takes_time}
use Rattle.board_laws.proofs.machine.events_take_time.Goals as goal

pub returns : goal.returns
returns c = takes_time
