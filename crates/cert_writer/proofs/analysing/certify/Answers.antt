use Rattle.std.proofs.Common.{◌↔◌, IsSome, subst, sym}
use Rattle.cert_form.specs.Contents.{CertificateView}
use Rattle.cert_writer.specs.Routine.{HasRoutine}
use Rattle.cert_writer.proofs.RoutineLemmas.{routine_of}
use Rattle.cert_writer.proofs.analysing.certify.Goals as goal

pub returns-in-Ok-clause-routine : goal.returns-in-Ok-clause-routine
returns-in-Ok-clause-routine c =
    let certificate = c.in_ok-certificate.certificate in
    subst (λ (made : CertificateView). IsSome c.args.said.now.budget ↔ HasRoutine made.procs) (sym c.in-Ok.ensures.kept.1)
    (routine_of c.args.said.now.budget certificate.budget certificate.procs c.in_ok-certificate.ensures.said.1 c.is_in_form.ensures.certificate.order)
