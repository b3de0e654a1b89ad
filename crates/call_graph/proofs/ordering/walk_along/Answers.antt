use Rattle.std.proofs.Common.{rules, arith, ◌≡◌, ◌<◌, length, inl, refl}
use Rattle.call_graph.specs.Walk.{callee_of_edge}
use Rattle.call_graph.proofs.CallLemmas.{calls_at}
use Rattle.call_graph.proofs.ordering.walk_along.Goals as goal

pub visit-requires-clause-known : goal.visit-requires-clause-known
visit-requires-clause-known c =
    let inside : c.loop-edge.edge-index < length c.args.calls.now = search rules in
    (callee_of_edge c.args.calls.now c.loop-edge.edge-index, inl (calls_at c.args.calls.now c.loop-edge.edge-index _ _ inside refl refl))

pub returns : goal.returns
returns c =
    let all : length c.args.calls.now ≡ c.loop-edge.edge-index = search rules in
    record { holds = c.loop-edge.invariant.holds; empty = c.loop-edge.invariant.empty; seen = λ i h. c.loop-edge.invariant.seen i (rw (← all) h) }

pub loop-edge-init : goal.loop-edge-init
loop-edge-init c = record { holds = c.in_ok-walk.ensures.holds c.args.calls.now; empty = c.in_ok-walk.ensures.empty; seen = λ i h. absurd (omega arith) }
