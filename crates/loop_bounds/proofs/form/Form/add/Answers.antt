use Rattle.std.proofs.Common.{length, ◌+ℤ◌, ◌*ℤ◌, rules, ap, ◌∙◌, FitsSigned}
use Rattle.std.specs.Int.{w32}
use Rattle.std.proofs.lemmas.Int.{to_z-of_z}
use Rattle.loop_bounds.specs.Linear.{LinearView, total}
use Rattle.loop_bounds.proofs.FormLemmas.{raised_form, raised_total, raised_weight, pushed_form, pushed_total}
use Rattle.loop_bounds.proofs.form.Form.add.Goals as goal

pub invariant_of-self : goal.invariant_of-self
invariant_of-self c =
    let fits : FitsSigned w32 c.args.term.coefficient = search rules in
    let is = simp to_z-of_z at c.raised-raised.ensures in
    let h = c.in-Some.ensures in
    raised_form _ _ _ c.index-self-place.result c.args.term _ c.self.invariant h.0 h.1 is

pub invariant_of-self-in-None : goal.invariant_of-self-in-None
invariant_of-self-in-None c =
    let e = ap (λ (s : LinearView). length s.terms) c.self.view_is in
    pushed_form _ _ c.args.term c.self.invariant (search rules) c.in-None.ensures

pub returns-in-Some-clause-total : goal.returns-in-Some-clause-total
returns-in-Some-clause-total c = λ x.
    let fits : FitsSigned w32 c.args.term.coefficient = search rules in
    let is = simp to_z-of_z at c.raised-raised.ensures in
    let h = c.in-Some.ensures in
    raised_total _ _ _ c.index-self-place.result c.args.term _ c.self.invariant h.0 h.1 is x
    ∙ ap (λ (s : LinearView). total x s.terms +ℤ c.args.term.coefficient *ℤ x c.args.term.variable) c.self.view_is

pub returns-in-Some-clause-weight : goal.returns-in-Some-clause-weight
returns-in-Some-clause-weight c =
    let fits : FitsSigned w32 c.args.term.coefficient = search rules in
    let is = simp to_z-of_z at c.raised-raised.ensures in
    let h = c.in-Some.ensures in
    let r = raised_weight _ _ _ c.index-self-place.result c.args.term _ c.self.invariant h.0 h.1 is in
    rw (← c.self.view_is) r

pub returns-in-None-clause-total : goal.returns-in-None-clause-total
returns-in-None-clause-total c = λ x.
    let e = ap (λ (s : LinearView). length s.terms) c.self.view_is in
    pushed_total _ _ c.args.term c.self.invariant (search rules) c.in-None.ensures x
    ∙ ap (λ (s : LinearView). total x s.terms +ℤ c.args.term.coefficient *ℤ x c.args.term.variable) c.self.view_is
