use Rattle.board_laws.proofs.EachMove.{pop_gives, pop_leaves}
use Rattle.board_laws.proofs.Laid.{word_found}
use Rattle.board_laws.proofs.moves.pop_moves_take_words.Goals as goal

pub returns-clause-leaves : goal.returns-clause-leaves
returns-clause-leaves c = pop_leaves

pub returns-clause-reads : goal.returns-clause-reads
returns-clause-reads c = word_found

pub returns-clause-gives : goal.returns-clause-gives
returns-clause-gives c = pop_gives
