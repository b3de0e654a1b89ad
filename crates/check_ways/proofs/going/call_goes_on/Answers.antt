use Rattle.std.proofs.Common.{◌↔◌, ◌≡◌, IsTrue, Option, Some, subst, sym}
use Rattle.check_cover.specs.Program.{callee_at}
use Rattle.check_cover.specs.declared.program.Callee.{Callee}
use Rattle.cert_form.specs.Contents.{CertificateView}
use Rattle.check_ways.specs.Parts.{CallGoesOn, OnEachExit, ReturnCovered}
use Rattle.check_ways.specs.Ways.{SubjectView}
use Rattle.check_ways.proofs.going.call_goes_on.Goals as goal

pub returns-then-entry_is_covered-clause-exact : goal.returns-then-entry_is_covered-clause-exact
returns-then-entry_is_covered-clause-exact c =
    let s = c.args.subject.now in
    let next = c.args.next.now in
    let callee = c.in-Some.callee in
    let answer = c.returns_are_covered.result in
    let called : Some callee ≡ callee_at s.cert next.address =
    subst (λ (x : SubjectView). Some callee ≡ callee_at x.cert next.address) c.subject.view_is (c.in-Some.ensures {u = tt}) in
    let exact : IsTrue answer ↔ OnEachExit s callee.number (ReturnCovered c.args.coverer.now s next callee) =
    subst (λ (x : CertificateView). IsTrue answer ↔ OnEachExit s callee.number (ReturnCovered x s next callee)) c.entry_is_covered.ensures.same
    c.returns_are_covered.ensures.exact in (
      (λ told.
          subst (λ (o : Option Callee). CallGoesOn c.args.coverer.now s next o) called
          (c.entry_is_covered.ensures.exact.0 c.if-entry_is_covered.true, exact.0 told)),
      (λ goes. exact.1 (subst (λ (o : Option Callee). CallGoesOn c.args.coverer.now s next o) (sym called) goes).1),
    )
