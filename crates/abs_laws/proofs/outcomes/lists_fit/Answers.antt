use Rattle.abs_laws.proofs.Lists.{list_fits}
use Rattle.abs_laws.proofs.outcomes.lists_fit.Goals as goal

pub returns : goal.returns
returns c = list_fits
