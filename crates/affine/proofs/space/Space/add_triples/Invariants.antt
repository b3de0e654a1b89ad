use Rattle.std.proofs.Common.{All}
use Rattle.affine.specs.Equality.{IsZeroOn}
use Rattle.affine.proofs.space.Space.add_triples.Given as goal

abbrev pub invariant-loop-second : goal.invariant-loop-second
invariant-loop-second l = All (IsZeroOn l.self) l.found
