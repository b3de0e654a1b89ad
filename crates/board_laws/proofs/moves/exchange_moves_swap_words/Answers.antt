use Rattle.board_laws.proofs.EachMove.{exchange_gives, exchange_leaves}
use Rattle.board_laws.proofs.moves.exchange_moves_swap_words.Goals as goal

pub returns-clause-leaves : goal.returns-clause-leaves
returns-clause-leaves c = exchange_leaves

pub returns-clause-gives : goal.returns-clause-gives
returns-clause-gives c = exchange_gives
