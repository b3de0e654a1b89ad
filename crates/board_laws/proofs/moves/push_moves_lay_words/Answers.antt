use Rattle.board_laws.proofs.EachMove.{push_leaves}
use Rattle.board_laws.proofs.moves.push_moves_lay_words.Goals as goal

pub returns : goal.returns
returns c = push_leaves
