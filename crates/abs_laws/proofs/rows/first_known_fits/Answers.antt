use Rattle.abs_laws.proofs.FirstKnown.{first_fits}
use Rattle.abs_laws.proofs.rows.first_known_fits.Goals as goal

pub returns : goal.returns
returns c = first_fits
