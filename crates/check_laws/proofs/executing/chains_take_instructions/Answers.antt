use Rattle.check_laws.proofs.ExecutingLemmas.{executing}
use Rattle.check_laws.proofs.executing.chains_take_instructions.Goals as goal

pub returns : goal.returns
returns c = executing
