use Rattle.loop_bounds.proofs.SoFar.{IsApartSoFar}
use Rattle.loop_bounds.proofs.linear.Linear.apart.Given as goal

abbrev pub invariant-loop-term : goal.invariant-loop-term
invariant-loop-term l = IsApartSoFar l.self l.variable l.term-index l.rest l.coefficient
