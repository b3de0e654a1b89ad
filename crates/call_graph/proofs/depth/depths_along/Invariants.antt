use Rattle.call_graph.proofs.DepthLemmas.{Settled}
use Rattle.call_graph.proofs.depth.depths_along.Given as goal

abbrev pub invariant-loop-proc : goal.invariant-loop-proc
invariant-loop-proc l = Settled l.own l.calls l.order l.proc-index l.depths.items
