use Rattle.std.proofs.Common.{rules, sym, ◌∙◌, FitsSigned}
use Rattle.std.specs.Int.{w128}
use Rattle.std.proofs.lemmas.Int.{to_z-of_z}
use Rattle.loop_bounds.proofs.BoundsLemmas.{fact_value, of_constant}
use Rattle.loop_bounds.proofs.bounds.vanishes.Goals as goal

pub returns : goal.returns
returns g c =
    let wide : FitsSigned w128 c.wide_constant.result = search rules in
    let start = simp to_z-of_z at c.new-left.ensures.known in
    let no_unknown = c.has_no_unknown.ensures.0 c.if-not-has_no_unknown.false in
    let zero = c.is_zero.ensures in
    let e = fact_value (g.S.Ranges.range_of c.args.source.now) c.args.effect.now c.new-left.result c.add_linear.new.self c.args.fact.now (start ∙ of_constant c.wide_constant.ensures.value) c.new-left.ensures.unknown c.add_linear.ensures.value (c.add_linear.ensures.no_unknown no_unknown) in
    (λ t. (no_unknown, λ before free. sym (e before free) ∙ zero.0 t before), λ v. zero.1 (λ x. e x x ∙ v.1 x x))
