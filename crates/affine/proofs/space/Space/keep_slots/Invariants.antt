use Rattle.affine.specs.Space.{Forgets}
use Rattle.affine.proofs.space.Space.keep_slots.Given as goal

abbrev pub invariant-loop-rank : goal.invariant-loop-rank
invariant-loop-rank l = Forgets l.initial.self l.self
