use Rattle.std.proofs.Common.{refl}
use Rattle.affine.proofs.SpanLemmas.{nothing_known}
use Rattle.affine.proofs.space.Space.full.Goals as goal

pub returns-clause-all : goal.returns-clause-all
returns-clause-all c = λ x. nothing_known _ x refl
