use Rattle.std.proofs.Common.{◌↔◌, IsTrue, subst}
use Rattle.cert_form.specs.Contents.{CertificateView}
use Rattle.cert_form.specs.Form.{IsInForm}
use Rattle.check_ways.proofs.KeptLemmas.{kept_each, respects_way}
use Rattle.check_ways.proofs.WideLemmas.{wides_cover}
use Rattle.check_ways.specs.Parts.{IsCoveredWay, OnEachLeft, ReturnCovered}
use Rattle.check_ways.specs.Ways.{SubjectView}
use Rattle.check_ways.proofs.going.returns_are_covered.Goals as goal

pub returns-then-wides_are_covered-clause-exact : goal.returns-then-wides_are_covered-clause-exact
returns-then-wides_are_covered-clause-exact c =
    let kept = c.in-Some.ensures {u = tt} in (
      (λ yes.
          wides_cover c.args.coverer.now c.args.subject.now c.args.next.now c.args.callee.now c.in-Some.exits.now
          (subst (λ (x : SubjectView). IsInForm x.cert) c.subject.view_is c.is_in_form.ensures) kept.0 kept.1
          (c.wides_are_covered.ensures.found c.if-wides_are_covered.true)),
      (λ all. c.if-wides_are_covered.true),
    )

pub returns-else-wides_are_covered-clause-exact : goal.returns-else-wides_are_covered-clause-exact
returns-else-wides_are_covered-clause-exact c =
    let s = c.args.subject.now in
    let kept = c.in-Some.ensures {u = tt} in
    kept_each s c.args.callee.now.number c.in-Some.exits.now c.lefts.result.now (ReturnCovered c.args.coverer.now s c.args.next.now c.args.callee.now)
    c.lefts_are_covered.result (subst (λ (x : SubjectView). IsInForm x.cert) c.subject.view_is c.is_in_form.ensures) kept.0 kept.1 c.lefts.ensures
    (respects_way s c.args.next.now c.args.callee.now (IsCoveredWay c.args.coverer.now))
    (subst (λ (x : CertificateView). IsTrue c.lefts_are_covered.result ↔ OnEachLeft c.lefts.result.now (ReturnCovered x s c.args.next.now c.args.callee.now))
    c.wides_are_covered.ensures.same c.lefts_are_covered.ensures.exact)
