-- A flag fact told by flag parts (docs/CERTIFICATE.md, "To version 3").
use Rattle.std.specs.Prelude.{List, [], ◌∷◌, Option, Some, None, ℤ, pos, ◌-ℤ◌}
use Rattle.loop_bounds.specs.declared.variable.Variable.{Variable}
use Rattle.loop_bounds.specs.declared.variable.Variable.TheVariants as variables
use Rattle.z80_decode.specs.declared.operands.Register8.{Register8}
use Rattle.z80_decode.specs.declared.operands.Register8.TheVariants as registers
use Rattle.abs_state.specs.declared.fact.FlagFact.{FlagFact}
use Rattle.abs_state.specs.declared.fact.FlagFact.TheVariants as facts
use Rattle.flag_letters.specs.declared.letter.Letter.{Letter}
use Rattle.flag_letters.specs.declared.letter.Letter.TheVariants as letters
use Rattle.flag_letters.specs.declared.part.FlagPart.{FlagPart}

-- the variable of a register
abbrev pub register_variable : Register8 → Variable
register_variable registers.B = variables.B
register_variable registers.C = variables.C
register_variable registers.D = variables.D
register_variable registers.E = variables.E
register_variable registers.H = variables.H
register_variable registers.L = variables.L
register_variable registers.A = variables.A

-- a letter, and a constant plus a variable
abbrev pub part_of_variable : Letter → ℤ → Variable → FlagPart
part_of_variable letter constant variable = record {
  letter = letter;
  linear = record { constant = constant; terms = record { coefficient = pos 1; variable = variable } ∷ [] };
}

-- `zR` is `z0+1*R`; `cKK` is `c-K+1*A,z-K+1*A`
abbrev pub parts_of_fact : FlagFact → List FlagPart
parts_of_fact (facts.Zero register) = part_of_variable letters.Zero (pos 0) (register_variable register) ∷ []
parts_of_fact (facts.Compared byte) =
    part_of_variable letters.CarryIfBelow (pos 0 -ℤ pos byte) variables.A ∷
    part_of_variable letters.Zero (pos 0 -ℤ pos byte) variables.A ∷ []

-- flag parts with those of a flag fact in its place
abbrev pub told_by_parts : Option FlagFact → List FlagPart → List FlagPart
told_by_parts None parts = parts
told_by_parts (Some fact) parts = parts_of_fact fact
