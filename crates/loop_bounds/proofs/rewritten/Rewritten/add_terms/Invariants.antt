use Rattle.std.proofs.Common.{take}
use Rattle.loop_bounds.proofs.SoFar.{HasAdded}
use Rattle.loop_bounds.proofs.rewritten.Rewritten.add_terms.Given as goal

abbrev pub invariant-loop-term : goal.invariant-loop-term
invariant-loop-term g l = HasAdded l.initial.self l.self (g.S.Ranges.range_of l.source) l.effect l.negated (take l.term-index l.terms) l.term-index
