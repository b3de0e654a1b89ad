use Rattle.std.proofs.Common.{◌↔◌, IsTrue, subst}
use Rattle.check_ways.specs.Parts.{ReturnLands}
use Rattle.check_ways.specs.Pays.{Lands}
use Rattle.check_ways.specs.Ways.{SubjectView, WayView}
use Rattle.check_ways.proofs.ExitLemmas.{at_none, at_some_exit}
use Rattle.check_walks.proofs.walks.row_lands.Goals as goal

pub returns-in-Some : goal.returns-in-Some
returns-in-Some c =
    let s = c.args.subject.now in
    let target = c.args.target.now in
    let answer = c.lands.result in
    at_some_exit s c.args.id (ReturnLands s c.args.next.now c.args.callee.now target) c.in-Some.exit answer (c.in-Some.ensures {u = tt})
    (subst (λ (way : WayView). IsTrue answer ↔ Lands s.cert way target) c.return_way.ensures
    (subst (λ (x : SubjectView). IsTrue answer ↔ Lands x.cert c.return_way.result target) c.subject.view_is c.lands.ensures))

pub returns-in-None : goal.returns-in-None
returns-in-None c =
    at_none c.args.subject.now c.args.id (ReturnLands c.args.subject.now c.args.next.now c.args.callee.now c.args.target.now) (c.in-None.ensures {u = tt})
