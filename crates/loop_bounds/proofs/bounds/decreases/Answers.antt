use Rattle.loop_bounds.proofs.BoundsLemmas.{decided_by_value}
use Rattle.loop_bounds.proofs.RewrittenLemmas.{room_light}
use Rattle.loop_bounds.proofs.bounds.decreases.Goals as goal

pub is_never_negative-requires : goal.is_never_negative-requires
is_never_negative-requires g c = room_light c.left_after.result c.left_after.ensures.room

pub returns : goal.returns
returns g c =
    decided_by_value c.is_never_negative.result _ _ c.args.from.now c.args.to.now c.args.cost c.args.effect.now c.left_after.result
    c.left_after.ensures.value c.is_never_negative.ensures
