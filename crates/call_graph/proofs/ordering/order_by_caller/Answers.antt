use Rattle.call_graph.proofs.OrderLemmas.{order_of, lowest_start}
use Rattle.call_graph.proofs.ordering.order_by_caller.Goals as goal

pub cycle_fault-requires-clause-lowest : goal.cycle_fault-requires-clause-lowest
cycle_fault-requires-clause-lowest c =
    let w = c.in-Ok.walk in
    let g = c.in-Ok.ensures in
    let z = c.in-Some.ensures.some in
    lowest_start c.args.calls.now w.marks.items w.met.items w.path.items w.order.items c.in-Some.start z.0 g.holds.kept g.empty g.seen c.requires.by_caller z.1 z.2 z.3 z.4

pub returns-in-None-clause-order : goal.returns-in-None-clause-order
returns-in-None-clause-order c =
    let w = c.in-Ok.walk in
    let g = c.in-Ok.ensures in
    order_of c.args.calls.now w.marks.items w.met.items w.path.items w.order.items g.holds.kept g.empty g.seen c.in-None.ensures.none
