use Rattle.std.proofs.Common.{subst}
use Rattle.cert_form.specs.Contents.{CertificateView}
use Rattle.check_cover.proofs.CoveringLemmas.{AreRowsAt}
use Rattle.check_cover.proofs.WholeLemmas.{whole}
use Rattle.check_cover.specs.Arrival.{ArrivalView}
use Rattle.check_cover.proofs.covering.Coverer.whole_row.Goals as goal

pub returns-then-knows_claims_of : goal.returns-then-knows_claims_of
returns-then-knows_claims_of c =
    let start = c.rows_at-rows.result.start in
    let end = c.rows_at-rows.result.end in
    let found = c.in_ok-id.ensures {u = tt} in
    whole c.args.self.now c.args.arrival.now c.args.state.now start end c.in_ok-id.id
    (subst (λ (cert : CertificateView). AreRowsAt cert c.args.arrival.now start end) c.self.view_is
    (subst (λ (a : ArrivalView). AreRowsAt c.self.inside.certificate.now a start end) c.arrival.view_is c.rows_at-rows.ensures.at))
    found.0 found.1 found.2 (c.knows_claims_of.ensures c.if-knows_claims_of.true)
