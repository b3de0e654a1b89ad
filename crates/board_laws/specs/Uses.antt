-- Helper: what an instruction does to the stack (UM0080, "Z80 Instruction Description").
use Rattle.std.specs.Prelude.{ℕ, Bool, true, false, not, length}
use Rattle.z80_alu.specs.declared.regs.Regs.{Regs}
use Rattle.z80_decode.specs.Spelling.{spelling}
use Rattle.z80_decode.specs.declared.instr.Instr.{Instr}
use Rattle.z80_decode.specs.declared.instr.Instr.TheVariants.{Push, Pop, ExchangeStack, Call, CallIf, Restart, ReturnIf, LoadPair, LoadPairDirect, LoadSp, IncrementPair, DecrementPair}
use Rattle.z80_decode.specs.declared.operands.Direct.TheVariants.{Pair}
use Rattle.z80_decode.specs.declared.operands.Register16.TheVariants.{Sp}
use Rattle.z80_draft.specs.Draft.{draft_on, past, draft_word}
use Rattle.z80_moves.specs.Moves.{moves_of}
use Rattle.z80_moves.specs.Operands.{stack_register}
use Rattle.z80_moves.specs.declared.registers.WordRegister.{WordRegister}
use Rattle.z80_moves.specs.declared.registers.WordRegister.TheVariants.{Pc}
use Rattle.z80_actions.specs.Returns.{is_return}
use Rattle.board_laws.specs.Stackless.{are_stackless}

-- whether an instruction pushes a word: PUSH, CALL, CALL cc if taken, and RST
abbrev pub is_push : Instr → Bool → Bool
is_push (Push qq) taken = true
is_push (Call nn) taken = true
is_push (CallIf cc nn) taken = taken
is_push (Restart p) taken = true
is_push _ taken = false

-- the word that it pushes, from the registers before it: the pair's word, or the address after a call
abbrev pub pushed_word : Regs → Instr → ℕ
pushed_word regs (Push qq) = draft_word (stack_register qq) (draft_on regs)
pushed_word regs instr = (past (length (spelling instr)) regs).pc

-- whether an instruction pops a word: POP, and the returns
abbrev pub is_pop : Instr → Bool → Bool
is_pop (Pop qq) taken = true
is_pop instr taken = is_return instr taken

-- the register that it pops into
abbrev pub popped_into : Instr → WordRegister
popped_into (Pop qq) = stack_register qq
popped_into _ = Pc

-- whether an instruction is EX (SP)
abbrev pub is_exchange : Instr → Bool
is_exchange (ExchangeStack pointer) = true
is_exchange _ = false

-- whether an instruction loads, increments or decrements SP
abbrev pub sets_sp : Instr → Bool
sets_sp (LoadPair Sp nn) = true
sets_sp (LoadPairDirect (Pair Sp) nn) = true
sets_sp (LoadSp pointer) = true
sets_sp (IncrementPair Sp) = true
sets_sp (DecrementPair Sp) = true
sets_sp _ = false

-- whether an instruction leaves SP and the stack alone: CALL cc and RET cc if not taken, and each instruction with stackless
-- moves
abbrev pub is_aside : Instr → Bool → Bool
is_aside (CallIf cc nn) taken = not taken
is_aside (ReturnIf cc) taken = not taken
is_aside instr taken = are_stackless (moves_of instr)
