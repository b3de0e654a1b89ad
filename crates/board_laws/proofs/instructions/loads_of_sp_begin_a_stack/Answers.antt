use Rattle.board_laws.proofs.EachInstruction.{load_sp_done}
use Rattle.board_laws.proofs.instructions.loads_of_sp_begin_a_stack.Goals as goal

pub returns : goal.returns
returns c = load_sp_done
