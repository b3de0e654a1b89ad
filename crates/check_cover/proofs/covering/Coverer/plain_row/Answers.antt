use Rattle.std.proofs.Common.{[], None, subst}
use Rattle.check_cover.proofs.CoveringLemmas.{AreRowsAt}
use Rattle.check_cover.proofs.PlainLemmas.{plainly}
use Rattle.check_cover.specs.Arrival.{ArrivalView}
use Rattle.cert_form.specs.Contents.{CertificateView}
use Rattle.check_cover.proofs.covering.Coverer.plain_row.Goals as goal

pub returns-then-is_plain : goal.returns-then-is_plain
returns-then-is_plain c =
    let a : ArrivalView =
    record { proc = c.args.proc; address = c.args.address; facts = []; before = c.args.state.now; effect = c.unchanged.result; refined = None } in
    let start = c.rows_at-rows.result.start in
    let end = c.rows_at-rows.result.end in
    let found = c.in_ok-id.ensures {u = tt} in
    plainly c.args.self.now a c.args.state.now start end c.in_ok-id.id
    (subst (λ (cert : CertificateView). AreRowsAt cert a start end) c.self.view_is c.rows_at-rows.ensures.at) found.0 found.1 found.2 (c.is_plain.ensures c.if-is_plain.true)
