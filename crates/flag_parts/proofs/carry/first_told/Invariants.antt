use Rattle.std.proofs.Common.{◌≡◌, drop}
use Rattle.abs_state.specs.Variables.{range_of}
use Rattle.flag_parts.specs.Carry.{known_carry}
use Rattle.flag_parts.proofs.carry.first_told.Given as goal

abbrev pub invariant-loop-part : goal.invariant-loop-part
invariant-loop-part l = known_carry (range_of l.state) l.parts ≡ known_carry (range_of l.state) (drop l.part-index l.parts)
