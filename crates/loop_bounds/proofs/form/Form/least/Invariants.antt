use Rattle.std.proofs.Common.{take}
use Rattle.loop_bounds.proofs.SoFar.{IsLeastSoFar}
use Rattle.loop_bounds.proofs.form.Form.least.Given as goal

abbrev pub invariant-loop-term : goal.invariant-loop-term
invariant-loop-term g l =
    IsLeastSoFar (g.R.Ranges.range_of l.ranges) l.self.constant (take l.term-index l.term-items) l.least
