use Rattle.std.proofs.Common.{◌↔◌, IsTrue, subst}
use Rattle.std.specs.List.{All}
use Rattle.cert_form.specs.Contents.{CertificateView}
use Rattle.check_ways.specs.Parts.{NextGoesOn}
use Rattle.check_ways.proofs.GoingLemmas.{all_go_on}
use Rattle.check_ways.proofs.going.goes_on.Goals as goal

pub returns-clause-exact : goal.returns-clause-exact
returns-clause-exact c =
    let s = c.args.subject.now in
    let nexts = c.args.nexts.now in
    let exact : IsTrue c.nexts_go_on.result ↔ All (NextGoesOn s.cert s) nexts =
    subst (λ (x : CertificateView). IsTrue c.nexts_go_on.result ↔ All (NextGoesOn x s) nexts) c.requires.certificate c.nexts_go_on.ensures.exact in
    let whole = all_go_on s nexts c.requires.step in
    ((λ told. whole.0 (exact.0 told)), (λ goes. exact.1 (whole.1 goes)))
