use Rattle.std.proofs.Common.{◌≡◌, ◌≤◌, rules, ◌*ℤ◌, pos, to_z, of_z}
use Rattle.std.specs.Int.{w128}
use Rattle.loop_bounds.proofs.Boxes.{multiple_size}
use Rattle.flag_parts.proofs.excluding.multiple.Goals as goal

pub returns-clause-size : goal.returns-clause-size
returns-clause-size c =
    let e : to_z w128 (of_z w128 (to_z w128 (of_z w128 c.from.result) *ℤ to_z w128 (of_z w128 c.from-2.result))) ≡ c.args.coefficient *ℤ pos c.args.value = search rules in
    let low : c.args.value ≤ 65535 = search rules in
    rw e (multiple_size c.args.coefficient c.args.value low)
