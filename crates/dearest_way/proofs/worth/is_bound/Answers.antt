use Rattle.std.proofs.Common.{◌↔◌, IsTrue, subst}
use Rattle.loop_bounds.specs.Bounds.{Decreases}
use Rattle.loop_bounds.specs.Effect.{unchanged}
use Rattle.loop_bounds.specs.Linear.{LinearView}
use Rattle.loop_bounds.specs.declared.effect.Effect.{Effect}
use Rattle.dearest_way.specs.Worth.{box_at}
use Rattle.dearest_way.proofs.worth.is_bound.Goals as goal

pub returns : goal.returns
returns c =
    let found = c.decreases.result in
    let box = box_at c.args.ranges.now.own.now c.args.ranges.now.arriving.now in
    let potential = c.args.potential.now in
    let bound = c.constant_sum-bound.result in
    subst (λ (f : LinearView). IsTrue found ↔ Decreases f potential 0 unchanged box box) c.constant_sum-bound.ensures
    (subst (λ (e : Effect). IsTrue found ↔ Decreases bound potential 0 e box box) c.unchanged.ensures.exact c.decreases.ensures)
