use Rattle.std.proofs.Common.{All}
use Rattle.affine.specs.Equality.{IsZeroOn}
use Rattle.affine.proofs.space.Space.relations.Given as goal

abbrev pub invariant-loop-first : goal.invariant-loop-first
invariant-loop-first l = All (IsZeroOn l.self) l.found
