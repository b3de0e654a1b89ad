use Rattle.tracked_variables.proofs.vector.common_divisor.Given as goal

abbrev pub decreases-loop-other : goal.decreases-loop-other
decreases-loop-other l = l.other
