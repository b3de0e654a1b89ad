use Rattle.address_map.proofs.FaultLemmas.{Known}
use Rattle.address_map.proofs.list.first_fault.Given as goal

abbrev pub invariant-loop-zone : goal.invariant-loop-zone
invariant-loop-zone l = Known l.zones l.least l.zone-index
