-- Helper: the decoder's step for an opcode after the prefix ED.
use Rattle.std.specs.Prelude.{ℕ, ◌/◌, ◌%◌, Option, Some, None, if◌then◌else◌, ◌==◌, nat_lt}
use Rattle.z80_decode.specs.declared.operands.Register8.{Register8}
use Rattle.z80_decode.specs.declared.operands.Direct.TheVariants as directs
use Rattle.z80_decode.specs.declared.operands.Special.TheVariants as specials
use Rattle.z80_decode.specs.declared.kinds.MaskableMode.TheVariants as modes
use Rattle.z80_decode.specs.declared.instr.Instr.{Instr}
use Rattle.z80_decode.specs.declared.instr.Instr.TheVariants as instrs
use Rattle.z80_decode.specs.Codes.{register_of, register_of_code, operand_pair_of, block_of}

abbrev pub input_to : Option Register8 → Option Instr
input_to (Some r) = Some (instrs.InputRegister r)
input_to None = None

abbrev pub output_from : Option Register8 → Option Instr
output_from (Some r) = Some (instrs.OutputRegister r)
output_from None = None

-- 01 yyy 0zz
abbrev pub port_or_pair : ℕ → ℕ → ℕ → Option Instr
port_or_pair y z word =
    if z == 0 then input_to (register_of y) else (
    if z == 1 then output_from (register_of y) else (
    if z == 2 then Some (if y % 2 == 0 then instrs.SbcHl (operand_pair_of (y / 2)) else instrs.AdcHl (operand_pair_of (y / 2))) else
    Some (if y % 2 == 0 then instrs.StorePairDirect (directs.Pair (register_of_code (y / 2))) word else instrs.LoadPairDirect (directs.Pair (register_of_code (y / 2))) word)))

-- 10 1yy 0zz
abbrev pub block_instr : ℕ → ℕ → Option Instr
block_instr y z =
    if nat_lt y 4 then None else (
    if z == 0 then Some (instrs.BlockLoad (block_of y)) else (
    if z == 1 then Some (instrs.BlockCompare (block_of y)) else (
    if z == 2 then Some (instrs.BlockInput (block_of y)) else (
    if z == 3 then Some (instrs.BlockOutput (block_of y)) else
    None))))

-- the opcodes without an operand
abbrev pub single_code : ℕ → Option Instr
single_code code =
    if code == 0x44 then Some instrs.Negate else (
    if code == 0x45 then Some instrs.ReturnFromNonMaskable else (
    if code == 0x46 then Some (instrs.InterruptMode modes.Zero) else (
    if code == 0x47 then Some (instrs.StoreASpecial specials.I) else (
    if code == 0x4D then Some instrs.ReturnFromInterrupt else (
    if code == 0x4F then Some (instrs.StoreASpecial specials.R) else (
    if code == 0x56 then Some (instrs.InterruptMode modes.One) else (
    if code == 0x57 then Some (instrs.LoadASpecial specials.I) else (
    if code == 0x5E then Some (instrs.InterruptMode modes.Two) else (
    if code == 0x5F then Some (instrs.LoadASpecial specials.R) else (
    if code == 0x67 then Some instrs.RotateDigitsRight else (
    if code == 0x6F then Some instrs.RotateDigitsLeft else
    None)))))))))))

abbrev pub behind_ed : ℕ → ℕ → Option Instr
behind_ed code word =
    if code / 64 == 1 then (if nat_lt (code % 8) 4 then port_or_pair (code / 8 % 8) (code % 8) word else single_code code) else (
    if code / 64 == 2 then block_instr (code / 8 % 8) (code % 8) else
    None)
