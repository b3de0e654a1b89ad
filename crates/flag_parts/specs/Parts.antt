-- What flag parts say (docs/CHECKER.md, "Narrowing by parts").
use Rattle.std.specs.Prelude.{◌≡◌, ◌↔◌, Bool, IsTrue, List, ℤ, pos, ◌<ℤ◌, All}
use Rattle.z80_alu.specs.Flags.{flags_of}
use Rattle.z80_alu.specs.declared.flags.Flags.{Flags}
use Rattle.loop_bounds.specs.Effect.{Valuation, whole}
use Rattle.loop_bounds.specs.Linear.{value}
use Rattle.abs_state.specs.Seen.{Seen}
use Rattle.abs_state.specs.Variables.{value_in}
use Rattle.flag_letters.specs.declared.letter.Letter.{Letter}
use Rattle.flag_letters.specs.declared.letter.Letter.TheVariants.{Zero, ZeroIfBelow, CarryIfBelow, SignIfBelow}
use Rattle.flag_letters.specs.declared.part.FlagPart.{FlagPart}

-- the flag of a letter
abbrev pub flag_of : Letter → Flags → Bool
flag_of Zero flags = flags.zero
flag_of ZeroIfBelow flags = flags.zero
flag_of CarryIfBelow flags = flags.carry
flag_of SignIfBelow flags = flags.sign

-- when the flag of a letter is set, given the value of the linear
abbrev pub IsSetAt : Letter → ℤ → Type 0
IsSetAt Zero n = n ≡ pos 0
IsSetAt ZeroIfBelow n = n <ℤ pos 0
IsSetAt CarryIfBelow n = n <ℤ pos 0
IsSetAt SignIfBelow n = n <ℤ pos 0

-- the flag of the part is set exactly if the value of its linear says so
abbrev pub HoldsPart : FlagPart → Flags → Valuation → Type 0
HoldsPart part flags x = IsTrue (flag_of part.letter flags) ↔ IsSetAt part.letter (value (whole x) part.linear)

-- each part holds of a byte F and the values of the variables
abbrev pub HoldsParts : List FlagPart → Flags → Valuation → Type 0
HoldsParts parts flags x = All (λ part. HoldsPart part flags x) parts

-- each part holds of the machine as an activation sees it
abbrev pub AreSeen : List FlagPart → Seen → Type 0
AreSeen parts m = HoldsParts parts (flags_of m.regs.main.f) (value_in m)
