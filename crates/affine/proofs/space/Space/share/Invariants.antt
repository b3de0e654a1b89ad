use Rattle.std.proofs.Common.{ℤ}
use Rattle.loop_bounds.specs.declared.variable.Variable.{Variable}
use Rattle.affine.specs.Space.{LiesOn}
use Rattle.affine.proofs.space.Space.share.Given as goal

abbrev pub invariant-loop-rank : goal.invariant-loop-rank
invariant-loop-rank l = (x : Variable → ℤ) → LiesOn l.initial.self x → LiesOn l.self x

abbrev pub invariant-loop-rank-2 : goal.invariant-loop-rank-2
invariant-loop-rank-2 l = (x : Variable → ℤ) → LiesOn l.fn.self x → LiesOn l.self x
