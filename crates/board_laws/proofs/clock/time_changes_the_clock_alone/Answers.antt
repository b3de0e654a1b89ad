use Rattle.board_laws.proofs.Clocks.{only_time}
use Rattle.board_laws.proofs.clock.time_changes_the_clock_alone.Goals as goal

pub returns : goal.returns
returns c = only_time
