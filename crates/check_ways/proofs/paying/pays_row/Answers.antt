use Rattle.std.proofs.Common.{◌≡◌, Some, slice_get, subst, sym}
use Rattle.check_ways.specs.Ways.{SubjectView}
use Rattle.check_ways.proofs.PayingLemmas.{row_paid}
use Rattle.check_ways.proofs.paying.pays_row.Goals as goal

pub returns-then-asks : goal.returns-then-asks
returns-then-asks c =
    row_paid c.args.subject.now c.args.way.now c.args.id c.in-Some.row c.args.lone c.row_pays_to.result
    (sym (subst (λ (s : SubjectView). Some c.in-Some.row ≡ slice_get s.cert.rows c.args.id) c.subject.view_is (c.in-Some.ensures {u = tt})))
    c.requires (c.asks.ensures.0 c.if-asks.true) c.row_pays_to.ensures
