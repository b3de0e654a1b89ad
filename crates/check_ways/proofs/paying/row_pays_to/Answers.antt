use Rattle.std.proofs.Common.{◌≡◌, ◌∙◌, ◌↔◌, IsTrue, Option, Some, subst, sym, ap}
use Rattle.abs_state.specs.Variables.{range_of}
use Rattle.abs_state.specs.declared.state.AbsState.{AbsState}
use Rattle.cert_lines.specs.declared.version.Version.{Version}
use Rattle.check_cover.specs.Arrival.{RefinementView}
use Rattle.check_payments.specs.Paying.{PaysEitherWay}
use Rattle.loop_bounds.specs.Linear.{LinearView}
use Rattle.check_ways.specs.Pays.{PaysBy, PaysTo, potential_of}
use Rattle.check_steps.specs.Told.{refinement_by}
use Rattle.refined_step.specs.Told.{StepToldView}
use Rattle.check_ways.specs.Ways.{SubjectView, WayView}
use Rattle.check_ways.proofs.paying.row_pays_to.Goals as goal

pub returns-in-Three : goal.returns-in-Three
returns-in-Three c =
    let paid = c.pays_either_way.result in
    let row = c.args.subject.now.row in
    let target = c.args.target.now in
    let cost = c.way.inside.cost in
    let effect = c.way.inside.effect in
    let moved = c.way.inside.moved in
    let from = c.potential_of-from.result in
    let to = c.potential_of-to.result in
    let linear = c.told.inside.linear in
    let state = c.subject.inside.state in
    let told : StepToldView = record { linear = c.told.inside.linear; conditions = c.told.inside.conditions } in
    let from_is : from ≡ potential_of row = subst (λ (x : SubjectView). from ≡ potential_of x.row) c.subject.view_is c.potential_of-from.ensures in
    let state_is : state ≡ row.state = subst (λ (x : SubjectView). state ≡ x.row.state) c.subject.view_is c.subject.invariant.3 in
    let exact : IsTrue paid ↔ PaysEitherWay (potential_of row) (potential_of target) cost effect moved linear (range_of row.state) (range_of target.state) =
    subst (λ (f : LinearView). IsTrue paid ↔ PaysEitherWay f (potential_of target) cost effect moved linear (range_of row.state) (range_of target.state)) from_is
    (subst (λ (t : LinearView). IsTrue paid ↔ PaysEitherWay from t cost effect moved linear (range_of row.state) (range_of target.state)) c.potential_of-to.ensures
    (subst (λ (a : AbsState). IsTrue paid ↔ PaysEitherWay from to cost effect moved linear (range_of a) (range_of target.state)) state_is
    (subst (λ (b : AbsState). IsTrue paid ↔ PaysEitherWay from to cost effect moved linear (range_of state) (range_of b)) c.state-other.ensures c.pays_either_way.ensures))) in
    let refined : Some (record { moved = moved; linear = told.linear; conditions = told.conditions }) ≡ refinement_by c.way.inside.version c.way.inside.told.now moved =
    ap (λ (t : StepToldView). Some (let r : RefinementView = record { moved = moved; linear = t.linear; conditions = t.conditions } in r)) c.told.view_is
    ∙ ap (λ (v : Version). refinement_by v c.way.inside.told.now moved) (sym c.in-Three.is) in
    subst (λ (w : WayView). IsTrue paid ↔ PaysTo row w.cost w.arrival target) c.way.view_is
    (subst (λ (o : Option RefinementView). IsTrue paid ↔ PaysBy row cost effect o target) refined exact)
