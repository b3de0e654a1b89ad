use Rattle.std.proofs.Common.{subst}
use Rattle.cert_form.specs.Form.{IsInForm}
use Rattle.check_ways.proofs.KeptLemmas.{kept_some}
use Rattle.check_ways.specs.Ways.{SubjectView}
use Rattle.check_ways.proofs.subject.Subject.has_exit.Goals as goal

pub returns-in-Some : goal.returns-in-Some
returns-in-Some c =
    let kept = c.in-Some.ensures {u = tt} in
    kept_some c.args.self.now c.args.proc c.in-Some.exits.now c.lefts.result.now c.is_empty.result
    (subst (λ (x : SubjectView). IsInForm x.cert) c.self.view_is c.is_in_form.ensures) kept.0 kept.1 c.lefts.ensures c.is_empty.ensures
