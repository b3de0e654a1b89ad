-- A flag fact's text (docs/CERTIFICATE.md, "Rows").
use Rattle.std.specs.Prelude.{ℕ, List, ◌++◌, codes, Option, Some, None}
use Rattle.abs_state.specs.declared.fact.FlagFact.{FlagFact}
use Rattle.abs_state.specs.declared.fact.FlagFact.TheVariants.{Zero, Compared}
use Rattle.cert_fields.specs.Names.{register_letter}
use Rattle.texts.specs.Numbers.{IsByte, hex2}

-- `zB`: Z is set exactly if B is 0; `c1F`: C is set exactly if A is below 1F, and Z exactly if A is 1F; `-`: no fact
abbrev pub flag_text : Option FlagFact → List ℕ
flag_text None = codes "-"
flag_text (Some (Zero register)) = codes "z" ++ register_letter register
flag_text (Some (Compared byte)) = codes "c" ++ hex2 byte

-- A is compared with a byte
abbrev pub IsFlag : Option FlagFact → Type 0
IsFlag None = Unit {0}
IsFlag (Some (Zero register)) = Unit {0}
IsFlag (Some (Compared byte)) = IsByte byte
