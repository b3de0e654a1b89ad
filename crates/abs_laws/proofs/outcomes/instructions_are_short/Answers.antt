use Rattle.abs_laws.proofs.Short.{short}
use Rattle.abs_laws.proofs.outcomes.instructions_are_short.Goals as goal

pub returns : goal.returns
returns c = short
