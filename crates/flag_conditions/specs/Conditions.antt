-- The conditions of an instruction, and what it means that they are true of the machine (docs/CHECKER.md, "Conditions
-- of a step").
use Rattle.std.specs.Prelude.{◌≡◌, ◌<◌, ◌++◌, Bool, if◌then◌else◌, List, Option, Some, None, IfSome, option_map}
use Rattle.std.specs.List.{filter_map}
use Rattle.intervals.specs.Range.{RangeView, Within}
use Rattle.loop_bounds.specs.Linear.{LinearView}
use Rattle.z80_alu.specs.Flags.{flags_of}
use Rattle.z80_decode.specs.declared.instr.Instr.{Instr}
use Rattle.z80_decode.specs.declared.instr.Instr.TheVariants.{ComplementCarry}
use Rattle.z80_draft.specs.Draft.{DraftView, draft_of}
use Rattle.z80_draft.specs.Outside.{Outside}
use Rattle.z80_draft.specs.Registers.{IsRegs}
use Rattle.abs_state.specs.Seen.{Seen}
use Rattle.abs_state.specs.Variables.{value_in}
use Rattle.flag_parts.specs.Parts.{AreSeen, HoldsParts}
use Rattle.flag_letters.specs.declared.letter.Letter.{Letter}
use Rattle.flag_letters.specs.declared.letter.Letter.TheVariants as letters
use Rattle.flag_letters.specs.declared.part.FlagPart.{FlagPart}
use Rattle.flag_conditions.specs.OtherSide.{other_side}
use Rattle.flag_conditions.specs.FlagChanges.{changes_of, leaves}
use Rattle.flag_conditions.specs.NewConditions.{carry_if_below, new_before, new_after}

-- the conditions over the variables before an instruction, and those over the variables after it
pub record StepConditionsView : Type 0 where
  pub before : List FlagPart
  pub after : List FlagPart

-- ---- from the row's parts

-- the part of C that says the opposite
abbrev pub carry_part_turned : Letter → LinearView → Option FlagPart
carry_part_turned letters.CarryIfBelow s = option_map carry_if_below (other_side s)
carry_part_turned letter s = None

-- CCF turns the parts of C; other instructions that change a flag leave no part of it
abbrev pub turned_by : Instr → FlagPart → Option FlagPart
turned_by ComplementCarry part = carry_part_turned part.letter part.linear
turned_by instr part = None

-- the condition that a part of the row gives: itself, where the instruction leaves its flag alone
abbrev pub carried : Instr → FlagPart → Option FlagPart
carried instr part = if leaves (changes_of instr) part.letter then Some part else turned_by instr part

-- ---- the conditions

-- the conditions of an instruction, given the range of the byte in work, the row's parts and the carry, if it is known
abbrev pub conditions_of : Instr → RangeView → List FlagPart → Option Bool → StepConditionsView
conditions_of instr byte parts carry = record {
  before = filter_map (carried instr) parts ++ new_before instr byte carry;
  after = new_after instr byte carry;
}

-- ---- their truth

-- the machine is in range, and what the row says of it holds: its parts, the carry, and the byte in work after the moves
pub record IsAsKnown (instr : Instr) (byte : RangeView) (parts : List FlagPart) (carry : Option Bool) (o : Outside) (m : Seen) : Type 0 where
  pub regs : IsRegs m.regs
  pub parts_hold : AreSeen parts m
  pub carry_is : IfSome carry (λ c. (flags_of m.regs.main.f).carry ≡ c)
  pub operand_byte : (draft_of o m.regs instr).operand < 256
  pub operand_within : Within byte (draft_of o m.regs instr).operand

-- each condition holds of F after a draft: one before at the values before, one after at the values after
pub record AreTrueOf (conditions : StepConditionsView) (m : Seen) (d : DraftView) : Type 0 where
  pub before : HoldsParts conditions.before (flags_of d.regs.main.f) (value_in m)
  pub after : (n : Seen) → n.regs ≡ d.regs → AreSeen conditions.after n

-- the conditions are true of the draft of each machine that is as known
unfoldable pub AreTrue : StepConditionsView → Instr → RangeView → List FlagPart → Option Bool → Type 0
AreTrue conditions instr byte parts carry =
    (o : Outside) (m : Seen) → IsAsKnown instr byte parts carry o m → AreTrueOf conditions m (draft_of o m.regs instr)
