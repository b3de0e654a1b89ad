use Rattle.check_ways.proofs.KeptLemmas.{OnFirst}
use Rattle.check_ways.specs.Parts.{PaysReturn}
use Rattle.check_ways.proofs.paying.lefts_are_paid.Given as goal

-- the row pays for the way back from each exit so far
abbrev pub invariant-loop-left : goal.invariant-loop-left
invariant-loop-left l = OnFirst l.lefts l.left-index (PaysReturn l.subject l.next l.callee)
