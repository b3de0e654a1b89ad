use Rattle.std.proofs.Common.{take, pos}
use Rattle.loop_bounds.proofs.SoFar.{IsLeastSoFar, IsGreatestSoFar}
use Rattle.linear_limits.proofs.spans.span.Given as goal

abbrev pub invariant-loop-term : goal.invariant-loop-term
invariant-loop-term g l =
    let box = g.R.Ranges.range_of l.ranges in
    IsLeastSoFar box (pos 0) (take l.term-index l.terms) l.least × IsGreatestSoFar box (take l.term-index l.terms) l.greatest
