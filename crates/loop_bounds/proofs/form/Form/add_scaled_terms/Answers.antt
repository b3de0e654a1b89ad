use Rattle.std.proofs.Common.{ap, rules, FitsSigned}
use Rattle.std.specs.Int.{w32}
use Rattle.std.proofs.lemmas.Int.{to_z-of_z}
use Rattle.loop_bounds.specs.declared.linear.Term.{Term}
use Rattle.loop_bounds.proofs.BesideLemmas.{scaled_more}
use Rattle.loop_bounds.proofs.form.Form.add_scaled_terms.Goals as goal

pub loop-term-preserved : goal.loop-term-preserved
loop-term-preserved c =
    let fits : FitsSigned w32 c.args.factor = search rules in
    let small : FitsSigned w32 c.term-item.result.coefficient = search rules in
    let value = simp to_z-of_z at c.scaled.ensures.value in
    let scaled = ap (λ (t : Term). t.coefficient) value in
    let more = scaled_more c.args.self.now c.loop-term.self c.add.new.self c.args.factor c.scaled.result.coefficient c.args.terms.now c.loop-term.term-index c.term-item.result
    (simp to_z-of_z at c.loop-term.invariant) c.loop-term-test.true c.term-item.is scaled c.scaled.ensures.size
    (λ x. rw (ap (λ (t : Term). t.variable) value) at (c.add.ensures.total x)) c.add.ensures.constant c.add.ensures.count c.add.ensures.weight in
    simp to_z-of_z more
