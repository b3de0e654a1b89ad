-- What the bounds of a certificate leave as it is.
use Rattle.std.specs.Prelude.{◌≡◌}
use Rattle.cert_form.specs.Contents.{CertificateView}

-- the second certificate says the same as the first about the whole ROM
pub record SaysTheSame (c d : CertificateView) : Type 0 where
  pub region : d.region ≡ c.region
  pub budget : d.budget ≡ c.budget
  pub board : d.board ≡ c.board
  pub cells : d.cells ≡ c.cells
