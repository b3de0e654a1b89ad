-- No linear effect with small coefficients is left out: the contract of `slight_effects_stay`.
use Rattle.std.specs.Prelude.{◌≡◌, ◌≤◌, Some, unsigned_abs}
use Rattle.std.specs.List.{All}
use Rattle.linear_effects.specs.declared.variable_effect.LinearEffect.{LinearEffect}
use Rattle.check_claims.specs.Rewritings.{slight_change}

abbrev pub SlightEffectsStay : Type 0
SlightEffectsStay =
    (e : LinearEffect) → All (λ t. unsigned_abs t.coefficient ≤ 256) e.linear.terms
    → slight_change (Some e) ≡ Some (record { variable = e.variable; value = e.linear })
