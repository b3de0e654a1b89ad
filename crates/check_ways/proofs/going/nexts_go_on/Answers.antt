use Rattle.std.proofs.Common.{rules, ◌∙◌, subst}
use Rattle.check_cover.proofs.Lists.{one_more}
use Rattle.cert_form.specs.Contents.{CertificateView}
use Rattle.check_ways.specs.Parts.{NextGoesOn}
use Rattle.check_ways.proofs.going.nexts_go_on.Goals as goal

pub loop-next-preserved : goal.loop-next-preserved
loop-next-preserved c =
    let same = c.loop-next.invariant.0 in
    let goes = c.next_goes_on.ensures.exact.0 (search (rules, c.if-not-next_goes_on.false)) in (
      c.next_goes_on.ensures.same ∙ same,
      one_more (NextGoesOn c.args.coverer.now c.args.subject.now) c.args.nexts.now c.loop-next.next-index c.next-item.result c.loop-next.invariant.1
          c.loop-next-test.true c.next-item.is (subst (λ (cert : CertificateView). NextGoesOn cert c.args.subject.now c.next-item.result) same goes),
    )
