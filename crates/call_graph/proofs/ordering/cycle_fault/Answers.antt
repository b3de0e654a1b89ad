use Rattle.call_graph.proofs.CallLemmas.{lowest_of}
use Rattle.call_graph.proofs.ordering.cycle_fault.Goals as goal

pub returns-in-Ok-Some : goal.returns-in-Ok-Some
returns-in-Ok-Some c =
    lowest_of c.args.calls.now c.args.start c.in-Ok-Some.cycle.items (rw c.in-Ok-Some.field-0-is at c.in-Ok-Some.ensures.some) c.requires.lowest.lowest

pub unreachable-requires : goal.unreachable-requires
unreachable-requires c = (rw c.in-Ok-None.field-0-is at c.in-Ok-None.ensures.none) c.requires.lowest.returns.0 c.requires.lowest.returns.1
