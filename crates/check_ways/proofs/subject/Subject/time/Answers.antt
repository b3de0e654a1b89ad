use Rattle.std.proofs.Common.{◌≡◌, ◌≤◌, ℕ, subst, sym, unwrap_or}
use Rattle.cert_form.specs.Form.{IsInForm}
use Rattle.check_ways.specs.Ways.{SubjectView}
use Rattle.check_ways.proofs.SubjectLemmas.{proc_time_fits}
use Rattle.check_ways.proofs.subject.Subject.time.Goals as goal

pub returns-clause-fits : goal.returns-clause-fits
returns-clause-fits c =
    let s = c.args.self.now in
    subst (λ (n : ℕ). n ≤ 1000000000) (sym (subst (λ (x : SubjectView). c.unwrap_or.result ≡ unwrap_or x.proc.time 0) c.self.view_is c.unwrap_or.ensures))
    (proc_time_fits s.cert (subst (λ (x : SubjectView). IsInForm x.cert) c.self.view_is c.is_in_form.ensures) s.row.proc s.proc c.is_subject.ensures.procedure)
