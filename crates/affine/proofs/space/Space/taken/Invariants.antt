use Rattle.affine.proofs.Taking.{RegistersTaken, SlotTaken}
use Rattle.affine.proofs.space.Space.taken.Given as goal

abbrev pub invariant-loop-rank : goal.invariant-loop-rank
invariant-loop-rank l = RegistersTaken l.self l.next l.effect l.rank

abbrev pub invariant-loop-rank-2 : goal.invariant-loop-rank-2
invariant-loop-rank-2 l = SlotTaken l.self l.next l.effect l.first l.rank
