use Rattle.std.proofs.Common.{◌↔◌, IsTrue, subst}
use Rattle.check_ways.specs.Parts.{PaysReturn, PaysWay}
use Rattle.check_ways.specs.Ways.{WayView}
use Rattle.check_ways.proofs.ExitLemmas.{at_each_exit, at_no_exit}
use Rattle.check_ways.proofs.paying.row_is_paid.Goals as goal

pub returns-in-Some : goal.returns-in-Some
returns-in-Some c =
    let s = c.args.subject.now in
    at_each_exit s c.args.id (PaysReturn s c.args.next.now c.args.callee.now) c.in-Some.exit c.pays_way.result (c.in-Some.ensures {u = tt})
    (subst (λ (w : WayView). IsTrue c.pays_way.result ↔ PaysWay s w) c.return_way.ensures c.pays_way.ensures)

pub returns-in-None : goal.returns-in-None
returns-in-None c = at_no_exit c.args.subject.now c.args.id (PaysReturn c.args.subject.now c.args.next.now c.args.callee.now) (c.in-None.ensures {u = tt})
