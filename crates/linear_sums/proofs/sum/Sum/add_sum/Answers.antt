use Rattle.std.proofs.Common.{length, [], ◌∷◌, ◌++◌, ◌≡◌, ◌*ℤ◌, ◌≤◌, ◌∙◌, ℤ, ap, rules, arith, FitsSigned}
use Rattle.std.specs.Int.{w128}
use Rattle.std.proofs.lemmas.Int.{to_z-of_z}
use Rattle.loop_bounds.specs.Form.{weight}
use Rattle.loop_bounds.specs.Linear.{LinearView}
use Rattle.linear_sums.specs.Sum.{sign}
use Rattle.linear_sums.proofs.SumLemmas.{with_one_more, with_none, next_fits, whole_sum, sum_room}
use Rattle.linear_sums.proofs.sum.Sum.add_sum.Goals as goal

pub append-requires-clause-light : goal.append-requires-clause-light
append-requires-clause-light c =
    let t = c.term-item.result in
    let shifted = c.shift.new.self in
    let f1 : FitsSigned w128 c.times.result = search rules in
    let f2 : FitsSigned w128 c.constant.result = search rules in
    let f3 : FitsSigned w128 c.times-in-loop-term.result = search rules in
    let f4 : FitsSigned w128 c.sign-factor.result = search rules in
    let f5 : FitsSigned w128 c.coefficient.result = search rules in
    let moved = simp to_z-of_z at c.shift.ensures in
    let sum = simp to_z-of_z at c.times-in-loop-term.ensures.value in
    let product : c.times-in-loop-term.result ≡ sign c.args.negated *ℤ t.coefficient = sum ∙ ap (λ (z : ℤ). z *ℤ c.coefficient.result) c.sign-factor.ensures ∙ ap (λ (z : ℤ). sign c.args.negated *ℤ z) c.coefficient.ensures in
    let light : weight shifted.terms ≤ 4096000000 = rw moved (omega (arith, c.requires.room.weight)) in
    let short : length shifted.terms ≤ 16 = rw moved (omega (arith, c.requires.room.terms)) in
    let fits = next_fits c.args.negated shifted c.loop-term.self c.args.other.now c.terms-term-items.result.now c.loop-term.term-index t c.times-in-loop-term.result c.terms-term-items.ensures.value light short c.requires.other c.loop-term.invariant c.loop-term-test.true c.term-item.is product in
    simp to_z-of_z fits.1

pub loop-term-init : goal.loop-term-init
loop-term-init c = with_none c.shift.new.self (sign c.args.negated)

pub loop-term-preserved : goal.loop-term-preserved
loop-term-preserved c =
    let t = c.term-item.result in
    let f3 : FitsSigned w128 c.times-in-loop-term.result = search rules in
    let f4 : FitsSigned w128 c.sign-factor.result = search rules in
    let f5 : FitsSigned w128 c.coefficient.result = search rules in
    let sum = simp to_z-of_z at c.times-in-loop-term.ensures.value in
    let product : c.times-in-loop-term.result ≡ sign c.args.negated *ℤ t.coefficient = sum ∙ ap (λ (z : ℤ). z *ℤ c.coefficient.result) c.sign-factor.ensures ∙ ap (λ (z : ℤ). sign c.args.negated *ℤ z) c.coefficient.ensures in
    let pushed = simp to_z-of_z at c.append.ensures in
    with_one_more c.shift.new.self c.loop-term.self c.append.new.self (sign c.args.negated) c.terms-term-items.result.now c.loop-term.term-index t c.times-in-loop-term.result c.loop-term.invariant c.loop-term-test.true c.term-item.is product (pushed ∙ ap (λ v. let s : LinearView = record c.loop-term.self { terms = c.loop-term.self.terms ++ record { coefficient = c.times-in-loop-term.result; variable = v } ∷ [] } in s) c.variable.ensures)

pub returns-clause-exact : goal.returns-clause-exact
returns-clause-exact c =
    let f1 : FitsSigned w128 c.times.result = search rules in
    let f2 : FitsSigned w128 c.constant.result = search rules in
    let f4 : FitsSigned w128 c.sign-factor.result = search rules in
    let moved = simp to_z-of_z at c.shift.ensures in
    let by = simp to_z-of_z at c.times.ensures.value in
    whole_sum c.args.negated c.args.self.now c.shift.new.self c.loop-term.self c.args.other.now c.terms-term-items.result.now c.loop-term.term-index c.constant.result c.times.result c.terms-term-items.ensures.value c.constant.ensures.value (by ∙ ap (λ (z : ℤ). z *ℤ c.constant.result) c.sign-factor.ensures) moved c.loop-term.invariant c.loop-term-test.false

pub returns-clause-room : goal.returns-clause-room
returns-clause-room c = λ count more h k.
    let f1 : FitsSigned w128 c.times.result = search rules in
    let f2 : FitsSigned w128 c.constant.result = search rules in
    let f4 : FitsSigned w128 c.sign-factor.result = search rules in
    let moved = simp to_z-of_z at c.shift.ensures in
    let by = simp to_z-of_z at c.times.ensures.value in
    sum_room c.args.negated c.args.self.now c.loop-term.self c.args.other.now (whole_sum c.args.negated c.args.self.now c.shift.new.self c.loop-term.self c.args.other.now c.terms-term-items.result.now c.loop-term.term-index c.constant.result c.times.result c.terms-term-items.ensures.value c.constant.ensures.value (by ∙ ap (λ (z : ℤ). z *ℤ c.constant.result) c.sign-factor.ensures) moved c.loop-term.invariant c.loop-term-test.false) count more h k
