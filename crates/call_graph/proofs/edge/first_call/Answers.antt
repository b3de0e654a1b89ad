use Rattle.std.proofs.Common.{◌≡◌, true, false, arith, rules}
use Rattle.std.proofs.lemmas.Bool.{ltb-true, ltb-false}
use Rattle.std.proofs.lemmas.List.Sorted.{IsPartitionPoint-from_clause, IsPartitionedBy-ltb}
use Rattle.std.specs.List.Sorted.{IsPartitionPoint}
use lib.Dec.{ltb}
use Rattle.call_graph.proofs.edge.first_call.Given.{Over}
use Rattle.call_graph.proofs.edge.first_call.Goals as goal

point : (g : Over) (c : goal.After-partition_point g) →
    IsPartitionPoint (λ e. ltb (g.C.Call.called_by e) c.args.proc ≡ true) (λ e. ltb (g.C.Call.called_by e) c.args.proc ≡ false) c.args.calls.now c.partition_point.result
point g c =
    IsPartitionPoint-from_clause (λ e. ltb (g.C.Call.called_by e) c.args.proc) c.args.calls.now c.partition_point.result
    c.partition_point.ensures.partitioned
    (IsPartitionedBy-ltb g.C.Call.called_by c.args.calls.now c.args.proc c.requires)
    (λ a r q k. search rules)

pub returns-clause-before : goal.returns-clause-before
returns-clause-before g c = λ i d h. ltb-true _ _ ((point g c).0 i d (omega arith) h)

pub returns-clause-from : goal.returns-clause-from
returns-clause-from g c = λ i d h l. ltb-false _ _ ((point g c).1 i d h l)
