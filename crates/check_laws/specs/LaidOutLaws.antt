-- What the laws of src/laid_out.rt say: each is the contract of the function with its name.
use Rattle.std.specs.Prelude.{ℕ, List}
use Rattle.cert_form.specs.Contents.{CertificateView}
use Rattle.check_laws.specs.Chain.{AcceptsInForm}
use Rattle.check_laws.specs.Layout.{RunsAreLaidOut}

abbrev pub AcceptedRunsAreLaidOut : Type 0
AcceptedRunsAreLaidOut =
    (rom : List ℕ) (cert : CertificateView) → AcceptsInForm rom cert → RunsAreLaidOut rom cert
