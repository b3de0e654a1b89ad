use Rattle.board_laws.proofs.EachInstruction.{pop_done}
use Rattle.board_laws.proofs.instructions.pops_take_words.Goals as goal

pub returns : goal.returns
returns c = pop_done
