-- Helper: the decoder's step for an opcode after the prefix CB, by its fields xx yyy zzz.
use Rattle.std.specs.Prelude.{ℕ, ◌/◌, ◌%◌, Option, Some, None, if◌then◌else◌, ◌==◌}
use Rattle.z80_decode.specs.declared.operands.Place.{Place}
use Rattle.z80_decode.specs.declared.kinds.ShiftKind.{ShiftKind}
use Rattle.z80_decode.specs.declared.instr.Instr.{Instr}
use Rattle.z80_decode.specs.declared.instr.Instr.TheVariants as instrs
use Rattle.z80_decode.specs.Codes.{shift_of, bit_of}

abbrev pub shift_at : Place → Option ShiftKind → Option Instr
shift_at place (Some kind) = Some (instrs.Shift kind place)
shift_at place None = None

-- the instruction of an opcode with a place, which the caller read from the field zzz
abbrev pub behind_cb : ℕ → Place → Option Instr
behind_cb code place =
    if code / 64 == 0 then shift_at place (shift_of (code / 8 % 8)) else (
    if code / 64 == 1 then Some (instrs.TestBit (bit_of (code / 8 % 8)) place) else (
    if code / 64 == 2 then Some (instrs.ResetBit (bit_of (code / 8 % 8)) place) else
    Some (instrs.SetBit (bit_of (code / 8 % 8)) place)))
