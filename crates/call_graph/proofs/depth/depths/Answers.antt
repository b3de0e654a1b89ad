use Rattle.std.proofs.Common.{rules, ◌≡◌, map}
use Rattle.std.specs.List.Sorted.{IsPermutation}
use Rattle.std.proofs.lemmas.List.Sorted.{IsNonDecreasingBy-from_sort_by_key}
use Rattle.call_graph.specs.Calls.{IsCallOrder}
use Rattle.call_graph.specs.Depths.{edge_of_call}
use Rattle.call_graph.proofs.DepthLemmas.{orders_from, depths_same}
use Rattle.call_graph.proofs.depth.depths.Goals as goal

pub depths_along-requires-clause-rising : goal.depths_along-requires-clause-rising
depths_along-requires-clause-rising c =
    rw c.deref-3.ensures.value (IsNonDecreasingBy-from_sort_by_key (λ e. e.caller) _ c.sort_unstable_by_key.ensures.sorted (λ a r q k. search rules))

pub depths_along-requires-clause-orders : goal.depths_along-requires-clause-orders
depths_along-requires-clause-orders c =
    let copied : c.in-Ok-from_slice.sorted.items ≡ c.args.calls.now = c.in-Ok-from_slice.ensures.items in
    let moved : IsPermutation c.args.calls.now c.deref-3.result.now = rw (c.deref-3.ensures.value, ← copied) c.sort_unstable_by_key.ensures.permutation in
    let edges : c.in-Ok.edges.items ≡ map edge_of_call c.args.calls.now = c.in-Ok.ensures in
    let order : IsCallOrder (map edge_of_call c.args.calls.now) c.deref-2.result.now =
    rw (c.deref-2.ensures.value, ← edges, ← c.deref.ensures.value) c.in_ok-procs.ensures.order in
    orders_from c.args.own.now c.args.calls.now c.deref-3.result.now c.deref-2.result.now c.requires moved order

pub returns-in-Ok-depths_along-clause-depths : goal.returns-in-Ok-depths_along-clause-depths
returns-in-Ok-depths_along-clause-depths c =
    let copied : c.in-Ok-from_slice.sorted.items ≡ c.args.calls.now = c.in-Ok-from_slice.ensures.items in
    let moved : IsPermutation c.args.calls.now c.deref-3.result.now = rw (c.deref-3.ensures.value, ← copied) c.sort_unstable_by_key.ensures.permutation in
    depths_same c.args.own.now c.args.calls.now c.deref-3.result.now c.in-Ok-depths_along.depths.items moved c.in-Ok-depths_along.ensures
