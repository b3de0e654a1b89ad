use Rattle.std.proofs.Common.{rules, FitsSigned}
use Rattle.std.specs.Int.{w128}
use Rattle.std.proofs.lemmas.Int.{to_z-of_z}
use Rattle.loop_bounds.proofs.BoundsLemmas.{decrease_value}
use Rattle.loop_bounds.proofs.bounds.left_after.Goals as goal

pub returns-clause-value : goal.returns-clause-value
returns-clause-value c =
    let wide : FitsSigned w128 c.constant_left.result = search rules in
    let known = simp to_z-of_z at c.new-left.ensures.known in
    decrease_value c.unchanged.result c.args.effect.now c.unchanged.ensures.old c.new-left.result c.add_linear.new.self c.add_linear-2.new.self
    c.constant_left.result known c.new-left.ensures.unknown c.args.from.now c.args.to.now c.args.cost c.constant_left.ensures.value
    c.add_linear.ensures.value c.add_linear-2.ensures.value

pub returns-clause-room : goal.returns-clause-room
returns-clause-room c = c.add_linear-2.ensures.room 3 (c.add_linear.ensures.room 0 c.new-left.ensures.room)
