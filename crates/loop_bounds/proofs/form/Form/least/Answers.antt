use Rattle.std.proofs.Common.{◌≤◌, ◌*◌, unsigned_abs, rules, refl, arith, ap, FitsSigned, take, ◌<◌, ◌^◌}
use Rattle.std.specs.Int.{w128}
use Rattle.loop_bounds.specs.Linear.{LinearView}
use Rattle.loop_bounds.specs.Form.{weight}
use Rattle.loop_bounds.proofs.Boxes.{least_more, least_fits, whole_bound, whole_reached}
use Rattle.loop_bounds.proofs.Signed.{fits_128, sum_fits, sum_kept}
use Rattle.loop_bounds.proofs.form.Form.least.Goals as goal

pub overflow_add-least : goal.overflow_add-least
overflow_add-least g c =
    let m = c.least_multiple-least in
    let m_small : unsigned_abs m.result ≤ 65535 * unsigned_abs c.term-item.result.coefficient = search rules in
    let next = least_more _ _ _ _ c.term-item.result c.range.result _ m.result c.loop-term.invariant c.loop-term-test.true c.term-item.is (search rules) (search rules) m_small m.ensures.order in
    let light : weight (take c.self.inside.count c.self.inside.terms) < 2 ^ 31 = rw (← c.self.view_is) at c.requires.light in
    let small = least_fits _ _ _ _ _ next c.requires.small light in
    let fits : FitsSigned w128 m.result = search rules in
    sum_fits c.loop-term.least-bits _ _ refl fits (fits_128 _ (omega arith))

pub loop-term-preserved : goal.loop-term-preserved
loop-term-preserved g c =
    let m = c.least_multiple-least in
    let m_small : unsigned_abs m.result ≤ 65535 * unsigned_abs c.term-item.result.coefficient = search rules in
    let next = least_more _ _ _ _ c.term-item.result c.range.result _ m.result c.loop-term.invariant c.loop-term-test.true c.term-item.is (search rules) (search rules) m_small m.ensures.order in
    let light : weight (take c.self.inside.count c.self.inside.terms) < 2 ^ 31 = rw (← c.self.view_is) at c.requires.light in
    let small = least_fits _ _ _ _ _ next c.requires.small light in
    let fits : FitsSigned w128 m.result = search rules in
    rw (sum_kept c.loop-term.least-bits _ _ refl fits (fits_128 _ (omega arith))) next

pub returns-clause-bound : goal.returns-clause-bound
returns-clause-bound g c =
    whole_bound _ c.args.self.now _ _ _ c.loop-term.invariant c.loop-term-test.false (ap (λ (s : LinearView). s.terms) c.self.view_is)

pub returns-clause-reached : goal.returns-clause-reached
returns-clause-reached g c =
    whole_reached _ c.args.self.now _ _ _ c.loop-term.invariant c.loop-term-test.false (ap (λ (s : LinearView). s.terms) c.self.view_is) c.self.invariant.distinct
