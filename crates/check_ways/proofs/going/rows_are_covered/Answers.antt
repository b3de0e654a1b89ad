use Rattle.std.proofs.Common.{◌↔◌, IsTrue, ◌∙◌, subst, arith}
use Rattle.cert_form.specs.Contents.{CertificateView}
use Rattle.check_ways.specs.Parts.{AtEachExit, ReturnCovered}
use Rattle.check_ways.specs.Ways.{SubjectView}
use Rattle.check_ways.proofs.ExitLemmas.{AreRowsOf, each_exit, each_more, not_each}
use Rattle.check_ways.proofs.going.rows_are_covered.Goals as goal

pub returns-then-not-row_is_covered-clause-exact : goal.returns-then-not-row_is_covered-clause-exact
returns-then-not-row_is_covered-clause-exact c =
    let s = c.args.subject.now in
    let start = c.rows_of-rows.result.start in
    let end = c.rows_of-rows.result.end in
    let proc = c.args.callee.now.number in
    let exact =
    subst (λ (x : CertificateView). IsTrue c.row_is_covered.result ↔ AtEachExit s c.loop-id.id (ReturnCovered x s c.args.next.now c.args.callee.now)) c.loop-id.invariant.0
    c.row_is_covered.ensures.exact in
    not_each s proc start end c.loop-id.id (ReturnCovered c.args.coverer.now s c.args.next.now c.args.callee.now) c.row_is_covered.result
    (subst (λ (x : SubjectView). AreRowsOf x.cert proc start end) c.subject.view_is c.rows_of-rows.ensures.of) c.loop-id.auto.id c.loop-id-test.true
    c.if-not-row_is_covered.true exact

pub loop-id-preserved : goal.loop-id-preserved
loop-id-preserved c =
    let s = c.args.subject.now in
    let exact =
    subst (λ (x : CertificateView). IsTrue c.row_is_covered.result ↔ AtEachExit s c.loop-id.id (ReturnCovered x s c.args.next.now c.args.callee.now)) c.loop-id.invariant.0
    c.row_is_covered.ensures.exact in (
      c.row_is_covered.ensures.same ∙ c.loop-id.invariant.0,
      each_more s c.rows_of-rows.result.start c.loop-id.id (ReturnCovered c.args.coverer.now s c.args.next.now c.args.callee.now) c.row_is_covered.result
          c.if-not-row_is_covered.false exact c.loop-id.invariant.1,
    )

pub returns-clause-exact : goal.returns-clause-exact
returns-clause-exact c =
    let s = c.args.subject.now in
    let start = c.rows_of-rows.result.start in
    let end = c.rows_of-rows.result.end in
    let proc = c.args.callee.now.number in
    each_exit s proc start end (ReturnCovered c.args.coverer.now s c.args.next.now c.args.callee.now)
    (subst (λ (x : SubjectView). AreRowsOf x.cert proc start end) c.subject.view_is c.rows_of-rows.ensures.of)
    (λ k from below. c.loop-id.invariant.1 k from (omega (arith, below, c.loop-id-test.false)))
