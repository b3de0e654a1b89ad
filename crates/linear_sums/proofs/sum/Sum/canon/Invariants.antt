use Rattle.std.proofs.Common.{take}
use Rattle.linear_sums.specs.Bytes.{byte_form}
use Rattle.linear_sums.specs.Canon.{share}
use Rattle.linear_sums.proofs.Loops.{IsTotalSoFar}
use Rattle.linear_sums.proofs.sum.Sum.canon.Given as goal

abbrev pub invariant-loop-term : goal.invariant-loop-term
invariant-loop-term g l =
    IsTotalSoFar (byte_form (share (g.R.Ranges.range_of l.ranges) l.at)) l.initial.sum l.sum (take l.term-index l.term-items)
