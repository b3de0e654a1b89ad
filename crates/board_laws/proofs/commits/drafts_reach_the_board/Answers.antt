use Rattle.board_laws.proofs.Brought.{enable_kept, reaches}
use Rattle.board_laws.proofs.EachMove.{left}
use Rattle.board_laws.proofs.commits.drafts_reach_the_board.Goals as goal

pub returns-clause-rest : goal.returns-clause-rest
returns-clause-rest c = reaches

pub returns-clause-enable : goal.returns-clause-enable
returns-clause-enable c = enable_kept

pub returns-clause-words : goal.returns-clause-words
returns-clause-words c = left
