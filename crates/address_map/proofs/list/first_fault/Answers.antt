use Rattle.std.proofs.Common.{arith}
use Rattle.address_map.proofs.FaultLemmas.{one_zone-below, ends-below}
use Rattle.address_map.proofs.list.first_fault.Goals as goal

pub returns-clause-below : goal.returns-clause-below
returns-clause-below c =
    one_zone-below _ _ c.loop-zone.invariant.start (λ k l. c.loop-zone.invariant.edges k (omega arith))

pub returns-clause-ends : goal.returns-clause-ends
returns-clause-ends c = ends-below _ (λ k l. c.loop-zone.invariant.ends k (omega arith))
