-- The names of registers and modes in a certificate's text (docs/CERTIFICATE.md).
use Rattle.std.specs.Prelude.{ℕ, List, codes}
use Rattle.abs_state.specs.declared.mode.Mode.{Mode}
use Rattle.abs_state.specs.declared.mode.Mode.TheVariants.{Unset, Set, Nmi}
use Rattle.z80_decode.specs.declared.operands.Register8.{Register8}
use Rattle.z80_decode.specs.declared.operands.Register8.TheVariants.{A, B, C, D, E, H, L}

-- the letter of a register
abbrev pub register_letter : Register8 → List ℕ
register_letter A = codes "A"
register_letter B = codes "B"
register_letter C = codes "C"
register_letter D = codes "D"
register_letter E = codes "E"
register_letter H = codes "H"
register_letter L = codes "L"

-- the letter of a mode
abbrev pub mode_letter : Mode → List ℕ
mode_letter Unset = codes "u"
mode_letter Set = codes "s"
mode_letter Nmi = codes "n"
