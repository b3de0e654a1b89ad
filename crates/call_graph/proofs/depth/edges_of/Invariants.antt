use Rattle.std.proofs.Common.{◌≡◌, map, take}
use Rattle.call_graph.specs.Depths.{edge_of_call}
use Rattle.call_graph.proofs.depth.edges_of.Given as goal

abbrev pub invariant-loop-call : goal.invariant-loop-call
invariant-loop-call l = l.edges.items ≡ map edge_of_call (take l.call-index l.calls)
