use Rattle.std.proofs.Common.{ap, subst}
use Rattle.check_ways.specs.Pays.{Lands}
use Rattle.check_ways.specs.Ways.{SubjectView, WayView}
use Rattle.dearest_way.proofs.ArrivalLemmas.{back_from}
use Rattle.dearest_way.proofs.arrivals.arriving_back.Goals as goal

pub returns-then-lands : goal.returns-then-lands
returns-then-lands c =
    let s = c.args.subject.now in
    back_from s c.args.target.now c.args.next.now c.args.callee.now c.args.id c.in_ok-exit.exit c.return_way-way.result c.way.inside.state
    (c.in_ok-exit.ensures {u = tt}) c.return_way-way.ensures
    (subst (λ (x : SubjectView). Lands x.cert c.return_way-way.result c.args.target.now) c.subject.view_is (c.lands.ensures.0 c.if-lands.true))
    (ap (λ (w : WayView). w.state) c.way.view_is)
