use Rattle.abs_laws.proofs.Ranges.{instruction_in_range}
use Rattle.abs_laws.proofs.moves.constants_are_in_range.Goals as goal

pub returns : goal.returns
returns c = instruction_in_range
