use Rattle.std.proofs.Common.{rules, FitsSigned}
use Rattle.std.specs.Int.{w32, w128}
use Rattle.std.proofs.lemmas.Int.{to_z-of_z}
use Rattle.loop_bounds.proofs.BesideLemmas.{scaled_value}
use Rattle.loop_bounds.proofs.form.Form.add_scaled.Goals as goal

pub returns-clause-value : goal.returns-clause-value
returns-clause-value c = λ x.
    let fits : FitsSigned w32 c.args.factor = search rules in
    let wide : FitsSigned w128 c.scaled_constant.result = search rules in
    let raised = simp to_z-of_z at c.raise.ensures in
    let constant = simp to_z-of_z at c.scaled_constant.ensures.value in
    let total = simp to_z-of_z at (c.add_scaled_terms.ensures.total x) in
    scaled_value c.args.self.now c.raise.new.self c.add_scaled_terms.new.self c.args.linear.now c.args.factor c.scaled_constant.result x raised constant (rw c.terms.ensures.value at total) c.add_scaled_terms.ensures.constant
