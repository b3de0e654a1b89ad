use Rattle.std.proofs.Common.{◌≤◌, ◌^◌, FitsSigned, unsigned_abs, rules, ◌∙◌}
use Rattle.std.specs.Int.{w64}
use Rattle.std.proofs.lemmas.Int.{to_z-of_z}
use Rattle.std.proofs.lemmas.List.{length-set}
use Rattle.std.proofs.lemmas.List.Elements.{All-set}
use Rattle.affine.proofs.space.Space.factors.Goals as goal

pub loop-index-preserved : goal.loop-index-preserved
loop-index-preserved c =
    let fits : FitsSigned w64 c.in_ok-factor.factor = search rules in
    let size : unsigned_abs c.in_ok-factor.factor ≤ 2 ^ 44 = search rules in
    rw (to_z-of_z w64 c.in_ok-factor.factor fits) (length-set _ _ _ ∙ c.loop-index.invariant.0, All-set (λ f. unsigned_abs f ≤ 2 ^ 44) _ _ _ size c.loop-index.invariant.1)
