-- The loop over the row's parts.
use Rattle.std.proofs.Common.{arith}
use Rattle.std.proofs.lemmas.Grind.{common_steps}
use Rattle.std.proofs.lemmas.List.Elements.{filter_map-append}
use Rattle.flag_conditions.proofs.of_step.carried_parts.Goals as goal
use Rattle.flag_conditions.proofs.of_step.carried_parts.Goals.{in-Some, in_default}

pub loop-part-preserved : goal.loop-part-preserved
loop-part-preserved c = record {
  so_far = elim c.match-carried.branch [
    | in-Some w ↦ grind (arith, common_steps, filter_map-append)
    | in_default w ↦ grind (arith, common_steps, filter_map-append)
  ];
  within = elim c.match-carried.branch [ in-Some w ↦ grind (arith, common_steps) | in_default w ↦ grind (arith, common_steps) ];
}
