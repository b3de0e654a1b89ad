use Rattle.std.proofs.Common.{◌≡◌, ℕ, List, Vec, Global, Result, Ok, Err}
use Rattle.std.specs.Result.{IfOk, IfErr, OnOk}
use Rattle.call_graph.specs.Calls.{IsCallOrder, IsCycle, IsFaultOf}
use Rattle.call_graph.specs.declared.edge.Edge.{Edge}
use Rattle.call_graph.specs.declared.fault.GraphFault.{GraphFault}
use Rattle.std.specs.List.Sorted.{IsPermutation}
use Rattle.call_graph.proofs.SortedCalls.{sorted_calls}
use Rattle.call_graph.proofs.OrderLemmas.{no_cycle, order_same, fault_same}
use Rattle.call_graph.proofs.ordering.order.Goals as goal

pub order_by_caller-requires : goal.order_by_caller-requires
order_by_caller-requires c =
    rw c.deref.ensures.value (sorted_calls c.sort_unstable.new.self.items c.sort_unstable.ensures.sorted)

-- what holds for the sorted calls holds for the calls
outcome : (edges sorted : List Edge) → IsPermutation edges sorted → (result : Result (Vec ℕ Global) GraphFault) → IfOk result (λ list. IsCallOrder sorted list.items) → IfErr result (IsFaultOf sorted) →
    IfOk result (λ list. IsCallOrder edges list.items) × OnOk result ((list : List ℕ) → IsCycle edges list → ⊥) × IfErr result (IsFaultOf edges)
outcome edges sorted moved (Ok list) order fault =
    let same = order_same edges sorted list.items moved order in (same, λ cycle. no_cycle edges list.items cycle same, tt)
outcome edges sorted moved (Err fault) order named = (tt, tt, fault_same edges sorted moved fault named)

pub returns : goal.returns
returns c =
    let copied : c.in-Ok.calls.items ≡ c.args.edges.now = c.in-Ok.ensures.items in
    let moved : IsPermutation c.args.edges.now c.deref.result.now = rw (c.deref.ensures.value, ← copied) c.sort_unstable.ensures.permutation in
    let z = outcome c.args.edges.now c.deref.result.now moved c.order_by_caller.result c.order_by_caller.ensures.order c.order_by_caller.ensures.fault in
    record { order = z.0; acyclic = z.1; fault = z.2 }
