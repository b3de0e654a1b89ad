use Rattle.cert_form.proofs.Told.{told}
use Rattle.cert_form.proofs.WholeTexts.{text_of_injective}
use Rattle.cert_form.proofs.laws.texts_tell_certificates.Goals as goal

pub returns : goal.returns
returns c = text_of_injective told
