-- The names of variables in a certificate's text (docs/CERTIFICATE.md).
use Rattle.std.specs.Prelude.{ℕ, List, ◌++◌, codes}
use Rattle.std.specs.Fmt.{decimal}
use Rattle.loop_bounds.specs.declared.variable.Part.{Part}
use Rattle.loop_bounds.specs.declared.variable.Part.TheVariants.{Word, High, Low}
use Rattle.loop_bounds.specs.declared.variable.Variable.{Variable}
use Rattle.loop_bounds.specs.declared.variable.Variable.TheVariants as variables

-- the letter after a slot's number: none for the word, or that of the byte
abbrev pub part_letter : Part → List ℕ
part_letter Word = codes ""
part_letter High = codes "h"
part_letter Low = codes "l"

-- the name of a variable; slot 0 was pushed first
abbrev pub variable_name : Variable → List ℕ
variable_name variables.A = codes "A"
variable_name variables.B = codes "B"
variable_name variables.C = codes "C"
variable_name variables.D = codes "D"
variable_name variables.E = codes "E"
variable_name variables.H = codes "H"
variable_name variables.L = codes "L"
variable_name variables.Bc = codes "BC"
variable_name variables.De = codes "DE"
variable_name variables.Hl = codes "HL"
variable_name variables.Ix = codes "IX"
variable_name variables.Iy = codes "IY"
variable_name (variables.Slot number part) = codes "s" ++ (decimal number ++ part_letter part)
