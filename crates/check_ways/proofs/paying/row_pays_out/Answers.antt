use Rattle.std.proofs.Common.{◌≡◌, ◌↔◌, IsTrue, subst}
use Rattle.abs_state.specs.Variables.{range_of}
use Rattle.abs_state.specs.declared.state.AbsState.{AbsState}
use Rattle.loop_bounds.specs.Bounds.{Decreases}
use Rattle.loop_bounds.specs.Effect.{unchanged}
use Rattle.loop_bounds.specs.Linear.{LinearView}
use Rattle.loop_bounds.specs.declared.effect.Effect.{Effect}
use Rattle.check_ways.specs.Pays.{constant_sum, potential_of}
use Rattle.check_ways.specs.Ways.{SubjectView}
use Rattle.check_ways.proofs.paying.row_pays_out.Goals as goal

pub returns : goal.returns
returns c =
    let paid = c.decreases.result in
    let row = c.args.subject.now.row in
    let cost = c.args.cost in
    let from = c.potential_of-from.result in
    let to = c.zero.result in
    let effect = c.unchanged.result in
    let state = c.subject.inside.state in
    let from_is : from ≡ potential_of row = subst (λ (x : SubjectView). from ≡ potential_of x.row) c.subject.view_is c.potential_of-from.ensures in
    let state_is : state ≡ row.state = subst (λ (x : SubjectView). state ≡ x.row.state) c.subject.view_is c.subject.invariant.3 in
    subst (λ (f : LinearView). IsTrue paid ↔ Decreases f (constant_sum 0) cost unchanged (range_of row.state) (range_of row.state)) from_is
    (subst (λ (t : LinearView). IsTrue paid ↔ Decreases from t cost unchanged (range_of row.state) (range_of row.state)) c.zero.ensures
    (subst (λ (e : Effect). IsTrue paid ↔ Decreases from to cost e (range_of row.state) (range_of row.state)) c.unchanged.ensures.exact
    (subst (λ (a : AbsState). IsTrue paid ↔ Decreases from to cost effect (range_of a) (range_of a)) state_is c.decreases.ensures)))
