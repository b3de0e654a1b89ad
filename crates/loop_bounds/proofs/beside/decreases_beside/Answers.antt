use Rattle.std.proofs.Common.{◌≡◌, refl, rules, arith, pos, neg_ℤ, ◌-ℤ◌, FitsSigned}
use Rattle.std.specs.Int.{w32}
use Rattle.std.proofs.lemmas.Int.{ints, to_z-of_z}
use Rattle.loop_bounds.proofs.BesideLemmas.{beside_decided}
use Rattle.loop_bounds.proofs.beside.decreases_beside.Goals as goal

pub returns : goal.returns
returns g c =
    let left = c.left_after-left.result in
    let same : FitsSigned w32 c.args.factor = search rules in
    let fits : FitsSigned w32 (pos 0 -ℤ c.args.factor) = search rules in
    let negated : pos 0 -ℤ c.args.factor ≡ neg_ℤ c.args.factor = omega (arith, ints) in
    beside_decided left (record left { known = c.add_scaled.new.self }) c.args.from.now c.args.to.now c.args.beside.now c.args.cost c.args.effect.now c.args.factor (pos 0 -ℤ c.args.factor) negated
    c.left_after-left.ensures.value (λ x. let known = simp to_z-of_z at (c.add_scaled.ensures.value x) in known) refl c.is_never_negative.result _ _ c.is_never_negative.ensures
