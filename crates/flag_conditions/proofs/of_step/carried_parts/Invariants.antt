-- The loop over the row's parts.
use Rattle.std.proofs.Common.{◌≡◌, ◌≤◌, length, take}
use Rattle.std.specs.List.{filter_map}
use Rattle.flag_conditions.specs.Conditions.{carried}
use Rattle.flag_conditions.proofs.of_step.carried_parts.Given as goal

abbrev pub invariant-loop-part : goal.invariant-loop-part
invariant-loop-part l = record {
  so_far : l.conditions.items ≡ filter_map (carried l.instr) (take l.part-index l.parts);
  within : length l.conditions.items ≤ l.part-index;
}
