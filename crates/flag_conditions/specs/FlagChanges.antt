-- Which of Z, C and S an instruction leaves alone (docs/CHECKER.md, "Conditions of a step").
use Rattle.std.specs.Prelude.{Bool, true, false}
use Rattle.flag_letters.specs.declared.letter.Letter.{Letter}
use Rattle.flag_letters.specs.declared.letter.Letter.TheVariants as letters
use Rattle.z80_decode.specs.declared.instr.Instr.{Instr}
use Rattle.z80_decode.specs.declared.instr.Instr.TheVariants.{LoadASpecial, Pop, ExchangeAf, BlockCompare, Arithmetic, Increment, Decrement, DecimalAdjust, Negate, ComplementCarry, SetCarry, AddHl, AdcHl, SbcHl, AddIndex, RotateA, Shift, RotateDigitsLeft, RotateDigitsRight, TestBit}
use Rattle.z80_decode.specs.declared.operands.StackPair.{StackPair}
use Rattle.z80_decode.specs.declared.operands.StackPair.TheVariants as stack_pairs
use Rattle.flag_conditions.specs.declared.changes.FlagChanges.{FlagChanges}
use Rattle.flag_conditions.specs.declared.changes.FlagChanges.TheVariants.{Nothing, CarryAlone, AllButCarry, All}

-- whether the flag of a letter is left alone
abbrev pub leaves : FlagChanges → Letter → Bool
leaves Nothing letter = true
leaves CarryAlone letters.CarryIfBelow = false
leaves CarryAlone letter = true
leaves AllButCarry letters.CarryIfBelow = true
leaves AllButCarry letter = false
leaves All letter = false

-- POP AF changes all flags, another POP none
abbrev pub changes_of_pop : StackPair → FlagChanges
changes_of_pop stack_pairs.Af = All
changes_of_pop qq = Nothing

-- Which of Z, C and S an instruction may change (UM0080, "Z80 Instruction Description", "Condition Bits Affected"). A
-- flag that the manual leaves undefined is changed. Input and output trap and so change nothing.
unfoldable pub changes_of : Instr → FlagChanges
-- 8-bit and 16-bit loads, exchange, block search
changes_of (LoadASpecial special) = AllButCarry
changes_of (Pop qq) = changes_of_pop qq
changes_of ExchangeAf = All
changes_of (BlockCompare kind) = AllButCarry
-- 8-bit arithmetic and logic
changes_of (Arithmetic kind s) = All
changes_of (Increment m) = AllButCarry
changes_of (Decrement m) = AllButCarry
-- general-purpose arithmetic
changes_of DecimalAdjust = All
changes_of Negate = All
changes_of ComplementCarry = CarryAlone
changes_of SetCarry = CarryAlone
-- 16-bit arithmetic
changes_of (AddHl ss) = CarryAlone
changes_of (AdcHl ss) = All
changes_of (SbcHl ss) = All
changes_of (AddIndex index pp) = CarryAlone
-- rotate and shift
changes_of (RotateA kind) = CarryAlone
changes_of (Shift kind m) = All
changes_of RotateDigitsLeft = AllButCarry
changes_of RotateDigitsRight = AllButCarry
-- bit test
changes_of (TestBit b m) = AllButCarry
-- all others
changes_of _ = Nothing
