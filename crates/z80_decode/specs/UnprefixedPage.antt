-- Helper: the decoder's step for an opcode without a prefix, by its fields xx yyy zzz.
use Rattle.std.specs.Prelude.{ℕ, ◌/◌, ◌%◌, Option, Some, None, if◌then◌else◌, ◌==◌}
use Rattle.z80_decode.specs.declared.operands.Place.{Place}
use Rattle.z80_decode.specs.declared.operands.Place.TheVariants as places
use Rattle.z80_decode.specs.declared.operands.Operand.TheVariants as operands
use Rattle.z80_decode.specs.declared.operands.Address.TheVariants as addresses
use Rattle.z80_decode.specs.declared.operands.Direct.TheVariants as directs
use Rattle.z80_decode.specs.declared.operands.Pointer.TheVariants as pointers
use Rattle.z80_decode.specs.declared.kinds.AccumulatorRotate.TheVariants as rotates
use Rattle.z80_decode.specs.declared.instr.Instr.{Instr}
use Rattle.z80_decode.specs.declared.instr.Instr.TheVariants as instrs
use Rattle.z80_decode.specs.Codes.{place_coded, register_of_code, stack_pair_of, operand_pair_of, condition_of, short_condition_of, operation_of, restart_of}

-- 00 yyy 000
abbrev pub relative_jump : ℕ → ℕ → Instr
relative_jump y byte =
    if y == 0 then instrs.Nop else (
    if y == 1 then instrs.ExchangeAf else (
    if y == 2 then instrs.DecrementJump byte else (
    if y == 3 then instrs.JumpRelative byte else
    instrs.JumpRelativeIf (short_condition_of y) byte)))

-- 00 yyy 010
abbrev pub indirect_load : ℕ → ℕ → Instr
indirect_load y word =
    if y == 0 then instrs.StoreA addresses.Bc else (
    if y == 1 then instrs.LoadA addresses.Bc else (
    if y == 2 then instrs.StoreA addresses.De else (
    if y == 3 then instrs.LoadA addresses.De else (
    if y == 4 then instrs.StorePairDirect directs.ShortHl word else (
    if y == 5 then instrs.LoadPairDirect directs.ShortHl word else (
    if y == 6 then instrs.StoreA (addresses.Direct word) else
    instrs.LoadA (addresses.Direct word)))))))

-- 00 yyy 111
abbrev pub on_accumulator : ℕ → Instr
on_accumulator y =
    if y == 0 then instrs.RotateA rotates.Rlca else (
    if y == 1 then instrs.RotateA rotates.Rrca else (
    if y == 2 then instrs.RotateA rotates.Rla else (
    if y == 3 then instrs.RotateA rotates.Rra else (
    if y == 4 then instrs.DecimalAdjust else (
    if y == 5 then instrs.Complement else (
    if y == 6 then instrs.SetCarry else
    instrs.ComplementCarry))))))

-- 00 yyy zzz
abbrev pub first_quarter : ℕ → ℕ → ℕ → ℕ → Instr
first_quarter y z byte word =
    if z == 0 then relative_jump y byte else (
    if z == 1 then (if y % 2 == 0 then instrs.LoadPair (register_of_code (y / 2)) word else instrs.AddHl (operand_pair_of (y / 2))) else (
    if z == 2 then indirect_load y word else (
    if z == 3 then (if y % 2 == 0 then instrs.IncrementPair (register_of_code (y / 2)) else instrs.DecrementPair (register_of_code (y / 2))) else (
    if z == 4 then instrs.Increment (place_coded y) else (
    if z == 5 then instrs.Decrement (place_coded y) else (
    if z == 6 then instrs.LoadImmediate (place_coded y) byte else
    on_accumulator y))))))

-- 01 yyy zzz
abbrev pub load : Place → Place → Instr
load (places.Register target) source = instrs.LoadRegister target source
load (places.Memory target) (places.Register source) = instrs.Store target source
load (places.Memory target) (places.Memory source) = instrs.Halt

-- 11 yyy 001
abbrev pub pop_or_return : ℕ → Instr
pop_or_return y =
    if y % 2 == 0 then instrs.Pop (stack_pair_of (y / 2)) else (
    if y == 1 then instrs.Return else (
    if y == 3 then instrs.ExchangeSets else (
    if y == 5 then instrs.JumpTo pointers.Hl else
    instrs.LoadSp pointers.Hl)))

-- 11 yyy 011
abbrev pub jump_or_exchange : ℕ → ℕ → ℕ → Option Instr
jump_or_exchange y byte word =
    if y == 0 then Some (instrs.Jump word) else (
    if y == 1 then None else (
    if y == 2 then Some (instrs.OutputImmediate byte) else (
    if y == 3 then Some (instrs.InputImmediate byte) else (
    if y == 4 then Some (instrs.ExchangeStack pointers.Hl) else (
    if y == 5 then Some instrs.ExchangeDeHl else (
    if y == 6 then Some instrs.DisableInterrupts else
    Some instrs.EnableInterrupts))))))

-- 11 yyy 101
abbrev pub push_or_call : ℕ → ℕ → Option Instr
push_or_call y word =
    if y % 2 == 0 then Some (instrs.Push (stack_pair_of (y / 2))) else (
    if y == 1 then Some (instrs.Call word) else
    None)

-- 11 yyy zzz
abbrev pub last_quarter : ℕ → ℕ → ℕ → ℕ → Option Instr
last_quarter y z byte word =
    if z == 0 then Some (instrs.ReturnIf (condition_of y)) else (
    if z == 1 then Some (pop_or_return y) else (
    if z == 2 then Some (instrs.JumpIf (condition_of y) word) else (
    if z == 3 then jump_or_exchange y byte word else (
    if z == 4 then Some (instrs.CallIf (condition_of y) word) else (
    if z == 5 then push_or_call y word else (
    if z == 6 then Some (instrs.Arithmetic (operation_of y) (operands.Immediate byte)) else
    Some (instrs.Restart (restart_of y))))))))

-- the instruction of an opcode, given the byte and the word after it; None for the four prefixes
abbrev pub unprefixed : ℕ → ℕ → ℕ → Option Instr
unprefixed code byte word =
    if code / 64 == 0 then Some (first_quarter (code / 8 % 8) (code % 8) byte word) else (
    if code / 64 == 1 then Some (load (place_coded (code / 8 % 8)) (place_coded (code % 8))) else (
    if code / 64 == 2 then Some (instrs.Arithmetic (operation_of (code / 8 % 8)) (operands.Place (place_coded (code % 8)))) else
    last_quarter (code / 8 % 8) (code % 8) byte word))
