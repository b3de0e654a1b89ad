-- The texts of certificates determine their lines.
use Rattle.cert_lines.proofs.InjectiveLines.{injective}
use Rattle.cert_lines.proofs.PlainLines.{plain}
use Rattle.cert_lines.proofs.ShortLines.{short}
use Rattle.cert_form.proofs.Cuts.{LinesAreTold}

pub told : LinesAreTold
told = record { plain = plain; injective = injective; short = short }
