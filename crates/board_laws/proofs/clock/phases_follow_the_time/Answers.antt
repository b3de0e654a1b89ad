use Rattle.board_laws.proofs.Times.{phase_along}
use Rattle.board_laws.proofs.clock.phases_follow_the_time.Goals as goal

pub returns : goal.returns
returns c = phase_along
