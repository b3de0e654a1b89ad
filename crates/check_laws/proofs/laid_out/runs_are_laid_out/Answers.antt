use Rattle.check_laws.proofs.Whole.{laid_out}
use Rattle.check_laws.proofs.laid_out.runs_are_laid_out.Goals as goal

pub returns : goal.returns
returns c = laid_out
