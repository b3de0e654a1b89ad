-- In which state a row leaves its procedure (docs/CHECKER.md, "Successors, calls and exits").
use Rattle.std.specs.Prelude.{◌&&◌, Bool, true, not, if◌then◌else◌, List, Option, Some, None, Result, Ok, Err, option_and_then}
use Rattle.abs_state.specs.Mode.{is_unset}
use Rattle.abs_state.specs.Restricting.{condition_is}
use Rattle.abs_state.specs.declared.state.AbsState.{AbsState}
use Rattle.abs_step.specs.Successors.{is_empty}
use Rattle.flag_letters.specs.declared.part.FlagPart.{FlagPart}
use Rattle.flag_parts.specs.Narrowing.{narrowed}
use Rattle.z80_decode.specs.declared.fault.DecodeFault.{DecodeFault}
use Rattle.z80_decode.specs.declared.instr.Instr.{Instr}
use Rattle.z80_decode.specs.declared.instr.Instr.TheVariants.{Return, ReturnIf, ReturnFromInterrupt, ReturnFromNonMaskable}
use Rattle.z80_decode.specs.declared.kinds.Condition.{Condition}

-- a return leaves the procedure if the shape is empty and SP is set; main is never left
abbrev pub is_at_end : Bool → AbsState → Bool
is_at_end main s = is_empty s.shape && (not (is_unset s.mode) && not main)

-- what the row's flag parts and its flag fact leave of a state where a condition is met
abbrev pub state_where : Condition → List FlagPart → AbsState → Option AbsState
state_where condition parts s = option_and_then (condition_is true condition) (narrowed condition parts s)

-- the state in which a return leaves, if it may be taken
abbrev pub state_left : Instr → List FlagPart → AbsState → Option AbsState
state_left Return parts s = Some s
state_left (ReturnIf condition) parts s = state_where condition parts s
state_left ReturnFromInterrupt parts s = Some s
state_left ReturnFromNonMaskable parts s = Some s
state_left _ parts s = None

-- the state in which a row leaves its procedure, by its instruction
abbrev pub exit_by : Bool → List FlagPart → AbsState → Result Instr DecodeFault → Option AbsState
exit_by main parts s (Ok instr) = if is_at_end main s then state_left instr parts s else None
exit_by main parts s (Err fault) = None
