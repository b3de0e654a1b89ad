use Rattle.cert_form.proofs.GoesOn.{none_goes_on}
use Rattle.cert_form.proofs.laws.other_lines_begin_none.Goals as goal

pub returns : goal.returns
returns c = none_goes_on
