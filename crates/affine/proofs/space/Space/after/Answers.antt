use Rattle.loop_bounds.specs.Effect.{whole}
use Rattle.affine.proofs.StepLemmas.{forgotten, led}
use Rattle.affine.proofs.space.Space.after.Goals as goal

pub returns-then-is_settled : goal.returns-then-is_settled
returns-then-is_settled c = λ before x on leads.
    let shared = c.share.new.self in
    let next = c.taken-next.result in
    let on_next = led shared next c.args.effect.now c.taken-next.ensures.count c.taken-next.ensures.each before x (c.share.ensures (whole before) on) leads in
    forgotten next c.keep_slots.new.self c.keep_slots.ensures x on_next

pub returns-else-is_settled : goal.returns-else-is_settled
returns-else-is_settled c = λ before x on leads.
    let shared = c.share.new.self in
    let next = c.taken-next.result in
    let on_next = led shared next c.args.effect.now c.taken-next.ensures.count c.taken-next.ensures.each before x (c.share.ensures (whole before) on) leads in
    c.repaired.ensures x (forgotten next c.keep_slots.new.self c.keep_slots.ensures x on_next)
