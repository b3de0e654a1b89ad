use Rattle.board_laws.proofs.Clocks.{cleared, clocked}
use Rattle.board_laws.proofs.clock.events_move_the_clock.Goals as goal

pub returns-clause-clock : goal.returns-clause-clock
returns-clause-clock c = clocked

pub returns-clause-clear : goal.returns-clause-clear
returns-clause-clear c = λ hardware old new env event step p q r. let k = cleared hardware old new env event step p q r in (k.line, k.latched)
