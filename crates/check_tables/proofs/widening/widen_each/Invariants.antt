use Rattle.check_tables.proofs.WideLemmas.{WidensFirst}
use Rattle.check_tables.proofs.widening.widen_each.Given as goal

-- each so far is covered by one of the states
abbrev pub invariant-loop-left : goal.invariant-loop-left
invariant-loop-left l = WidensFirst l.lefts l.left-index l.wides
