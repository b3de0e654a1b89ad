use Rattle.std.proofs.Common.{◌≡◌, ◌∙◌, ◌↔◌, ℕ, IsTrue, ap, subst}
use Rattle.abs_state.specs.Variables.{range_of}
use Rattle.abs_state.specs.declared.state.AbsState.{AbsState}
use Rattle.loop_bounds.specs.Bounds.{Decreases}
use Rattle.loop_bounds.specs.Effect.{unchanged}
use Rattle.loop_bounds.specs.Linear.{LinearView}
use Rattle.loop_bounds.specs.declared.effect.Effect.{Effect}
use Rattle.check_ways.specs.Pays.{constant_sum, cost_before, potential_of}
use Rattle.check_ways.specs.Ways.{SubjectView}
use Rattle.check_ways.proofs.paying.is_within_time.Goals as goal

pub returns : goal.returns
returns c =
    let paid = c.decreases.result in
    let s = c.args.subject.now in
    let left = c.constant_sum-left.result in
    let to = c.potential_of-to.result in
    let before = c.cost_before-before.result in
    let effect = c.unchanged.result in
    let state = c.subject.inside.state in
    let left_is = c.constant_sum-left.ensures ∙ ap constant_sum c.time.ensures.value in
    let to_is : to ≡ potential_of s.row = subst (λ (x : SubjectView). to ≡ potential_of x.row) c.subject.view_is c.potential_of-to.ensures in
    let before_is : before ≡ cost_before s.proc.kind = subst (λ (x : SubjectView). before ≡ cost_before x.proc.kind) c.subject.view_is c.cost_before-before.ensures in
    let state_is : state ≡ s.row.state = subst (λ (x : SubjectView). state ≡ x.row.state) c.subject.view_is c.subject.invariant.3 in
    subst (λ (f : LinearView). IsTrue paid ↔ Decreases f (potential_of s.row) (cost_before s.proc.kind) unchanged (range_of s.row.state) (range_of s.row.state)) left_is
    (subst (λ (t : LinearView). IsTrue paid ↔ Decreases left t (cost_before s.proc.kind) unchanged (range_of s.row.state) (range_of s.row.state)) to_is
    (subst (λ (n : ℕ). IsTrue paid ↔ Decreases left to n unchanged (range_of s.row.state) (range_of s.row.state)) before_is
    (subst (λ (e : Effect). IsTrue paid ↔ Decreases left to before e (range_of s.row.state) (range_of s.row.state)) c.unchanged.ensures.exact
    (subst (λ (a : AbsState). IsTrue paid ↔ Decreases left to before effect (range_of a) (range_of a)) state_is c.decreases.ensures))))
