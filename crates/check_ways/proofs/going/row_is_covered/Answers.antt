use Rattle.check_ways.specs.Parts.{ReturnCovered}
use Rattle.check_ways.proofs.ExitLemmas.{at_each_exit, at_no_exit}
use Rattle.check_ways.proofs.going.row_is_covered.Goals as goal

pub returns-in-Some-clause-exact : goal.returns-in-Some-clause-exact
returns-in-Some-clause-exact c =
    at_each_exit c.args.subject.now c.args.id (ReturnCovered c.args.coverer.now c.args.subject.now c.args.next.now c.args.callee.now) c.in-Some.exit
    c.return_is_covered.result (c.in-Some.ensures {u = tt}) c.return_is_covered.ensures.exact

pub returns-in-None-clause-exact : goal.returns-in-None-clause-exact
returns-in-None-clause-exact c =
    at_no_exit c.args.subject.now c.args.id (ReturnCovered c.args.coverer.now c.args.subject.now c.args.next.now c.args.callee.now) (c.in-None.ensures {u = tt})
