use Rattle.board_laws.proofs.StacklessMoves.{move_keeps_sp, moves_are_stackless, moves_keep_accesses}
use Rattle.board_laws.proofs.moves.stackless_moves_keep_sp.Goals as goal

pub returns-clause-accesses : goal.returns-clause-accesses
returns-clause-accesses c = moves_keep_accesses

pub returns-clause-sp : goal.returns-clause-sp
returns-clause-sp c = move_keeps_sp

pub returns-clause-stackless : goal.returns-clause-stackless
returns-clause-stackless c = λ o moves draft h. let k = moves_are_stackless o moves draft h in (k.stack, k.sp)
