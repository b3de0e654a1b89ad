-- What the laws of src/accepted.rt say: each is the contract of the function with its name.
use Rattle.std.specs.Prelude.{ℕ, List}
use Rattle.board_step.specs.Safe.{Safe}
use Rattle.cert_form.specs.Contents.{CertificateView}
use Rattle.check_laws.specs.Chain.{AcceptsInForm}
use Rattle.check_laws.specs.Profile.{certified_profile, nmi_time}

abbrev pub AcceptedIsSafe : Type 0
AcceptedIsSafe =
    (rom : List ℕ) (cert : CertificateView) → AcceptsInForm rom cert → Safe (certified_profile rom cert) (nmi_time cert)
