use Rattle.std.proofs.Common.{◌≡◌, take}
use Rattle.call_graph.proofs.depth.wide.Given as goal

abbrev pub invariant-loop-bytes : goal.invariant-loop-bytes
invariant-loop-bytes l = l.list.items ≡ take l.bytes-index l.own
