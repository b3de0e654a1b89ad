-- Helper: the decoder's step for an opcode after the prefix DD or FD.
use Rattle.std.specs.Prelude.{ℕ, ◌/◌, ◌%◌, Option, Some, None, if◌then◌else◌, ◌==◌}
use Rattle.std.specs.Option.{option_or}
use Rattle.z80_decode.specs.declared.operands.Register8.{Register8}
use Rattle.z80_decode.specs.declared.operands.Register16.{Register16}
use Rattle.z80_decode.specs.declared.operands.Register16.TheVariants as words
use Rattle.z80_decode.specs.declared.operands.StackPair.{StackPair}
use Rattle.z80_decode.specs.declared.operands.StackPair.TheVariants as stack_pairs
use Rattle.z80_decode.specs.declared.operands.Pointer.{Pointer}
use Rattle.z80_decode.specs.declared.operands.Pointer.TheVariants as pointers
use Rattle.z80_decode.specs.declared.operands.IndexPair.TheVariants as index_pairs
use Rattle.z80_decode.specs.declared.operands.Index.{Index}
use Rattle.z80_decode.specs.declared.operands.Index.TheVariants as indexes
use Rattle.z80_decode.specs.declared.operands.Memory.{Memory}
use Rattle.z80_decode.specs.declared.operands.Memory.TheVariants as memories
use Rattle.z80_decode.specs.declared.operands.Place.TheVariants as places
use Rattle.z80_decode.specs.declared.operands.Operand.TheVariants as operands
use Rattle.z80_decode.specs.declared.operands.Direct.TheVariants as directs
use Rattle.z80_decode.specs.declared.instr.Instr.{Instr}
use Rattle.z80_decode.specs.declared.instr.Instr.TheVariants as instrs
use Rattle.z80_decode.specs.Codes.{register_of, operation_of}

abbrev pub as_word : Index → Register16
as_word indexes.Ix = words.Ix
as_word indexes.Iy = words.Iy

abbrev pub as_stack_pair : Index → StackPair
as_stack_pair indexes.Ix = stack_pairs.Ix
as_stack_pair indexes.Iy = stack_pairs.Iy

abbrev pub as_pointer : Index → Pointer
as_pointer indexes.Ix = pointers.Ix
as_pointer indexes.Iy = pointers.Iy

-- the opcodes for the index register itself
abbrev pub on_index : Index → ℕ → ℕ → Option Instr
on_index index code word =
    if code == 0x09 then Some (instrs.AddIndex index index_pairs.Bc) else (
    if code == 0x19 then Some (instrs.AddIndex index index_pairs.De) else (
    if code == 0x29 then Some (instrs.AddIndex index index_pairs.Own) else (
    if code == 0x39 then Some (instrs.AddIndex index index_pairs.Sp) else (
    if code == 0x21 then Some (instrs.LoadPair (as_word index) word) else (
    if code == 0x22 then Some (instrs.StorePairDirect (directs.Pair (as_word index)) word) else (
    if code == 0x23 then Some (instrs.IncrementPair (as_word index)) else (
    if code == 0x2A then Some (instrs.LoadPairDirect (directs.Pair (as_word index)) word) else (
    if code == 0x2B then Some (instrs.DecrementPair (as_word index)) else (
    if code == 0xE1 then Some (instrs.Pop (as_stack_pair index)) else (
    if code == 0xE3 then Some (instrs.ExchangeStack (as_pointer index)) else (
    if code == 0xE5 then Some (instrs.Push (as_stack_pair index)) else (
    if code == 0xE9 then Some (instrs.JumpTo (as_pointer index)) else (
    if code == 0xF9 then Some (instrs.LoadSp (as_pointer index)) else
    None)))))))))))))

-- 01 yyy zzz, where exactly one field is 110
abbrev pub load_at : Memory → Option Register8 → Option Register8 → Option Instr
load_at memory (Some r) (Some s) = None
load_at memory (Some r) None = Some (instrs.LoadRegister r (places.Memory memory))
load_at memory None (Some s) = Some (instrs.Store memory s)
load_at memory None None = None

-- the opcodes for the byte at (IX+d)
abbrev pub on_memory : Memory → ℕ → ℕ → Option Instr
on_memory memory code number =
    if code == 0x34 then Some (instrs.Increment (places.Memory memory)) else (
    if code == 0x35 then Some (instrs.Decrement (places.Memory memory)) else (
    if code == 0x36 then Some (instrs.LoadImmediate (places.Memory memory) number) else (
    if code / 64 == 1 then load_at memory (register_of (code / 8 % 8)) (register_of (code % 8)) else (
    if code / 64 == 2 then (if code % 8 == 6 then Some (instrs.Arithmetic (operation_of (code / 8 % 8)) (operands.Place (places.Memory memory))) else None) else
    None))))

-- the instruction of an opcode, given the bytes after it and their word
abbrev pub behind_index : Index → ℕ → ℕ → ℕ → ℕ → Option Instr
behind_index index code byte number word = option_or (on_index index code word) (on_memory (memories.At index byte) code number)
