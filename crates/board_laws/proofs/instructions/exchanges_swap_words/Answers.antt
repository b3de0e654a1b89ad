use Rattle.board_laws.proofs.EachInstruction.{exchange_done}
use Rattle.board_laws.proofs.instructions.exchanges_swap_words.Goals as goal

pub returns : goal.returns
returns c = exchange_done
