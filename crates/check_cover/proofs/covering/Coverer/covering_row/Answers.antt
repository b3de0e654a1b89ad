use Rattle.std.proofs.Common.{subst}
use Rattle.check_cover.specs.Arrival.{ArrivalView}
use Rattle.cert_form.specs.Contents.{CertificateView}
use Rattle.check_cover.proofs.CoveringLemmas.{AreRowsAt, found_covers}
use Rattle.check_cover.proofs.covering.Coverer.covering_row.Goals as goal

pub returns : goal.returns
returns c =
    let start = c.rows_at-rows.result.start in
    let end = c.rows_at-rows.result.end in
    let a = c.args.sought.now.arrival.now in
    found_covers c.args.self.now a c.args.sought.now.state.now start end c.first_covering.result
    (subst (λ (cert : CertificateView). AreRowsAt cert a start end) c.self.view_is
    (subst (λ (b : ArrivalView). AreRowsAt c.self.inside.certificate.now b start end) c.arrival.view_is c.rows_at-rows.ensures.at))
    c.first_covering.ensures
