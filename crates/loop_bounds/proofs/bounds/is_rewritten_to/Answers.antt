use Rattle.std.proofs.Common.{rules, ◌∙◌, FitsSigned}
use Rattle.std.specs.Int.{w128}
use Rattle.std.proofs.lemmas.Int.{to_z-of_z}
use Rattle.loop_bounds.proofs.BoundsLemmas.{difference_value, none_unknown, same_from_difference, difference_from_same}
use Rattle.loop_bounds.proofs.bounds.is_rewritten_to.Goals as goal

pub returns : goal.returns
returns g c =
    let wide : FitsSigned w128 c.constant_between.result = search rules in
    let start = simp to_z-of_z at c.new-left.ensures.known in
    let no_unknown = c.has_no_unknown.ensures.0 c.if-not-has_no_unknown.false in
    let zero = c.is_zero.ensures in
    let e = difference_value c.unchanged.result c.args.effect.now c.unchanged.ensures.old c.new-left.result c.add_linear.new.self c.add_linear-2.new.self
    c.constant_between.result start c.new-left.ensures.unknown (g.S.Ranges.range_of c.args.source.now) c.args.fact.now c.args.given.now c.args.negated c.constant_between.ensures.value
    c.add_linear.ensures.value c.add_linear-2.ensures.value
    (c.add_linear-2.ensures.no_unknown (none_unknown c.unchanged.result c.unchanged.ensures.old c.args.given.now.terms)) (c.add_linear.ensures.no_unknown no_unknown) in (
      λ t. (no_unknown, λ before free. same_from_difference _ _ _ (e before free) (zero.0 t before)),
      λ v. zero.1 (λ x. e x x ∙ difference_from_same _ _ (v.1 x x)),
    )
