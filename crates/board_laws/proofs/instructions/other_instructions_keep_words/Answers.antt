use Rattle.board_laws.proofs.EachInstruction.{aside_done}
use Rattle.board_laws.proofs.instructions.other_instructions_keep_words.Goals as goal

pub returns : goal.returns
returns c = aside_done
