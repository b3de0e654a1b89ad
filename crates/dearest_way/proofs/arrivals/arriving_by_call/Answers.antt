use Rattle.std.proofs.Common.{subst}
use Rattle.check_ways.specs.Ways.{SubjectView}
use Rattle.check_ways.proofs.ExitLemmas.{AreRowsOf}
use Rattle.dearest_way.specs.Arrivals.{ReturnsIn}
use Rattle.dearest_way.proofs.ArrivalLemmas.{if_some, on_some_exit}
use Rattle.dearest_way.proofs.arrivals.arriving_by_call.Goals as goal

pub returns-then-is_some : goal.returns-then-is_some
returns-then-is_some c =
    let s = c.args.subject.now in
    let start = c.rows_of-rows.result.start in
    let end = c.rows_of-rows.result.end in
    let proc = c.args.callee.now.number in
    if_some _ _ c.arriving_back-arriving.result
    (λ state. on_some_exit s proc start end c.loop-id.id (ReturnsIn s c.args.target.now c.args.next.now c.args.callee.now state)
    (subst (λ (x : SubjectView). AreRowsOf x.cert proc start end) c.subject.view_is c.rows_of-rows.ensures.of) c.loop-id.auto.id c.loop-id-test.true)
    c.arriving_back-arriving.ensures
