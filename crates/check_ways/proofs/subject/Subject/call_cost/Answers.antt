use Rattle.std.proofs.Common.{subst}
use Rattle.cert_form.specs.Form.{IsInForm}
use Rattle.check_ways.specs.Ways.{SubjectView}
use Rattle.check_ways.proofs.SubjectLemmas.{callee_time_fits}
use Rattle.check_ways.proofs.subject.Subject.call_cost.Goals as goal

pub call_cost-requires : goal.call_cost-requires
call_cost-requires c =
    callee_time_fits c.args.self.now.cert (subst (λ (s : SubjectView). IsInForm s.cert) c.self.view_is c.is_in_form.ensures)
    c.args.next.now.address c.args.callee.now c.requires
