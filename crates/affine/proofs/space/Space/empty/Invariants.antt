use Rattle.affine.proofs.EmptiedBelow.{EmptiedBelow}
use Rattle.affine.proofs.space.Space.empty.Given as goal

abbrev pub invariant-loop-rank : goal.invariant-loop-rank
invariant-loop-rank l = EmptiedBelow l.initial.self l.self l.index l.rank
