use Rattle.std.proofs.Common.{◌≡◌}
use Rattle.check_ways.proofs.KeptLemmas.{OnFirst}
use Rattle.check_ways.specs.Parts.{ReturnCovered}
use Rattle.check_ways.proofs.going.lefts_are_covered.Given as goal

-- the call comes back covered from each exit so far
abbrev pub invariant-loop-left : goal.invariant-loop-left
invariant-loop-left l = (l.coverer ≡ l.fn.coverer) × OnFirst l.lefts l.left-index (ReturnCovered l.fn.coverer l.subject l.next l.callee)
