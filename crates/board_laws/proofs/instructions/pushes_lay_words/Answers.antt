use Rattle.board_laws.proofs.EachInstruction.{push_done}
use Rattle.board_laws.proofs.instructions.pushes_lay_words.Goals as goal

pub returns : goal.returns
returns c = push_done
