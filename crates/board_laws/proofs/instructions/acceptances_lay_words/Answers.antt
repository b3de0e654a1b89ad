use Rattle.board_laws.proofs.EachInstruction.{acceptance_done}
use Rattle.board_laws.proofs.instructions.acceptances_lay_words.Goals as goal

pub returns : goal.returns
returns c = acceptance_done
