use Rattle.std.proofs.Common.{◌≡◌, ap, rules, arith, pos, sym, ◌∙◌, FitsSigned}
use Rattle.std.specs.Int.{w128}
use Rattle.std.proofs.lemmas.Int.{ints}
use Rattle.loop_bounds.specs.Linear.{LinearView}
use Rattle.loop_bounds.proofs.Zeros.{constant_zero, coefficients_zero, value_zero}
use Rattle.loop_bounds.proofs.form.Form.is_zero.Goals as goal

pub returns : goal.returns
returns c =
    let fits : FitsSigned w128 c.self.inside.constant = search rules in
    let none : c.self.inside.constant ≡ pos 0 = omega (arith, ints) in
    let same = ap (λ (s : LinearView). s.constant) c.self.view_is in
    let terms = ap (λ (s : LinearView). s.terms) c.self.view_is in (
      λ t. value_zero c.args.self.now _ terms (sym same ∙ none) (c.all_zero.ensures.0 t),
      λ z. c.all_zero.ensures.1 (coefficients_zero c.args.self.now _ terms c.self.invariant.distinct z),
    )

pub returns-then-self-ne0 : goal.returns-then-self-ne0
returns-then-self-ne0 c =
    let same = ap (λ (s : LinearView). s.constant) c.self.view_is in
    (λ t. absurd (search rules), λ z. let none = constant_zero c.args.self.now z in absurd (omega (arith, ints)))
