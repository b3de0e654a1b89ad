-- The text of a row's flag parts, and which are in form (docs/CERTIFICATE.md, "Flag parts").
use Rattle.std.specs.Prelude.{ℕ, ◌≤◌, List, ◌++◌, length, map, codes}
use Rattle.std.specs.List.{AllByRecursion}
use Rattle.cert_fields.specs.Facts.{list_text}
use Rattle.cert_fields.specs.Linear.{IsShort, IsSum, linear_text}
use Rattle.flag_letters.specs.declared.letter.Letter.{Letter}
use Rattle.flag_letters.specs.declared.letter.Letter.TheVariants.{Zero, ZeroIfBelow, CarryIfBelow, SignIfBelow}
use Rattle.flag_letters.specs.declared.part.FlagPart.{FlagPart}

-- the letter of a flag part
abbrev pub letter_text : Letter → List ℕ
letter_text Zero = codes "z"
letter_text ZeroIfBelow = codes "b"
letter_text CarryIfBelow = codes "c"
letter_text SignIfBelow = codes "s"

-- a flag part: the letter and the linear
unfoldable pub part_text : FlagPart → List ℕ
part_text p = letter_text p.letter ++ linear_text p.linear

-- the flag parts of a row
unfoldable pub parts_text : List FlagPart → List ℕ
parts_text parts = list_text (map part_text parts)

-- a flag part may be in a row with this many slots
abbrev pub IsFlagPart : ℕ → FlagPart → Type 0
IsFlagPart slots p = IsSum slots p.linear

abbrev pub AreFlagParts : ℕ → List FlagPart → Type 0
AreFlagParts slots parts = AllByRecursion (IsFlagPart slots) parts

-- the linear of a flag part is within its limits
abbrev pub IsShortPart : FlagPart → Type 0
IsShortPart p = IsShort p.linear

-- at most eight flag parts, each within its limits
pub record AreFewParts (parts : List FlagPart) : Type 0 where
  pub count : length parts ≤ 8
  pub short : AllByRecursion IsShortPart parts
