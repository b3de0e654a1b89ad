use Rattle.std.proofs.Common.{◌↔◌, ◌∙◌, IsTrue, refl, subst, arith}
use Rattle.std.proofs.lemmas.Option.{slice_get_read}
use Rattle.abs_state.specs.declared.state.AbsState.{AbsState}
use Rattle.cert_form.specs.Contents.{CertificateView}
use Rattle.check_ways.proofs.KeptLemmas.{left_all, left_more, left_not}
use Rattle.check_ways.specs.Parts.{ReturnCovered}
use Rattle.check_ways.proofs.going.lefts_are_covered.Goals as goal

pub returns-then-not-return_is_covered-clause-exact : goal.returns-then-not-return_is_covered-clause-exact
returns-then-not-return_is_covered-clause-exact c =
    let s = c.args.subject.now in
    let at = slice_get_read c.args.lefts.now _ c.loop-left.left-index c.left-item.result refl c.loop-left-test.true c.left-item.is in
    let exact = subst (λ (x : CertificateView). IsTrue c.return_is_covered.result ↔ ReturnCovered x s c.args.next.now c.args.callee.now c.state.result) c.loop-left.invariant.0
    c.return_is_covered.ensures.exact in
    left_not c.args.lefts.now c.loop-left.left-index c.left-item.result (ReturnCovered c.args.coverer.now s c.args.next.now c.args.callee.now)
    c.return_is_covered.result at c.if-not-return_is_covered.true
    (subst (λ (x : AbsState). IsTrue c.return_is_covered.result ↔ ReturnCovered c.args.coverer.now s c.args.next.now c.args.callee.now x) c.state.ensures exact)

pub loop-left-preserved : goal.loop-left-preserved
loop-left-preserved c =
    let s = c.args.subject.now in
    let at = slice_get_read c.args.lefts.now _ c.loop-left.left-index c.left-item.result refl c.loop-left-test.true c.left-item.is in
    let exact = subst (λ (x : CertificateView). IsTrue c.return_is_covered.result ↔ ReturnCovered x s c.args.next.now c.args.callee.now c.state.result) c.loop-left.invariant.0
    c.return_is_covered.ensures.exact in (
      c.return_is_covered.ensures.same ∙ c.loop-left.invariant.0,
      left_more c.args.lefts.now c.loop-left.left-index c.left-item.result (ReturnCovered c.args.coverer.now s c.args.next.now c.args.callee.now) at
          c.loop-left.invariant.1
          (subst (λ (x : AbsState). ReturnCovered c.args.coverer.now s c.args.next.now c.args.callee.now x) c.state.ensures
          (exact.0 c.if-not-return_is_covered.false)),
    )

pub returns-clause-exact : goal.returns-clause-exact
returns-clause-exact c =
    left_all c.args.lefts.now c.loop-left.left-index (ReturnCovered c.args.coverer.now c.args.subject.now c.args.next.now c.args.callee.now)
    (let end = c.loop-left-test.false in omega arith) c.loop-left.invariant.1
