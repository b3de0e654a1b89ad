use Rattle.std.proofs.Common.{take}
use Rattle.linear_sums.proofs.Loops.{IsTotalSoFar}
use Rattle.flag_parts.specs.Excluding.{known_part}
use Rattle.flag_parts.proofs.excluding.known_value.Given as goal

abbrev pub invariant-loop-term : goal.invariant-loop-term
invariant-loop-term g l =
    IsTotalSoFar (known_part (g.R.Ranges.range_of l.ranges)) l.linear.constant l.sum (take l.term-index l.term-items)
