use Rattle.std.proofs.Common.{subst}
use Rattle.check_ways.proofs.TopLemmas.{AreRowsHere, pays_place}
use Rattle.check_ways.specs.Ways.{SubjectView}
use Rattle.check_ways.proofs.paying.pays_place.Goals as goal

pub returns : goal.returns
returns c =
    let start = c.rows_at-rows.result.start in
    let end = c.rows_at-rows.result.end in
    λ yes.
    pays_place c.args.subject.now start end c.args.cost c.args.proc c.args.address
    (subst (λ (s : SubjectView). AreRowsHere s.cert c.args.proc c.args.address start end) c.subject.view_is c.rows_at-rows.ensures.at) (c.pays_top.ensures yes)
