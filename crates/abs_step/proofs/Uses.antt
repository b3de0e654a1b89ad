-- What an instruction that does not use the stack is not; and the values of variables, by the registers and the words.
use Rattle.std.proofs.Common.{◌≡◌, ℕ, Bool, true, false, List, refl, ap}
use Rattle.std.specs.Prelude.{slice_index}
use Rattle.loop_bounds.specs.declared.variable.Variable.{Variable}
use Rattle.loop_bounds.specs.declared.variable.Variable.TheVariants as variables
use Rattle.z80_decode.specs.declared.instr.Instr.{Instr}
use Rattle.z80_decode.specs.declared.instr.Instr.TheVariants as instrs
use Rattle.z80_decode.specs.declared.operands.Register16.TheVariants as words
use Rattle.z80_decode.specs.declared.operands.Register8.TheVariants as registers
use Rattle.intervals.specs.declared.reg_pair.RegPair.TheVariants as pairs
use Rattle.board_laws.specs.Uses.{is_exchange, is_pop, is_push, sets_sp}
use Rattle.abs_state.specs.Fact.{byte_in}
use Rattle.abs_state.specs.Pairs.{word_in}
use Rattle.abs_state.specs.Seen.{Seen}
use Rattle.abs_state.specs.Variables.{part_of, value_in}
use Rattle.abs_state.specs.declared.state.AbsState.{AbsState}
use Rattle.abs_step.specs.Successors.{stack_set, uses_stack}

never : (P : Type 0) (b : Bool) → b ≡ true → b ≡ false → P
never P b e f = absurd (cc)

-- ---- uses of the stack

pub no_push : (instr : Instr) (taken : Bool) → uses_stack instr ≡ false → is_push instr taken ≡ false
no_push (instrs.Push qq) taken u = never _ _ refl u
no_push (instrs.Call nn) taken u = never _ _ refl u
no_push (instrs.CallIf cc' nn) taken u = never _ _ refl u
no_push (instrs.Restart p) taken u = never _ _ refl u
no_push _ taken u = refl

pub no_pop : (instr : Instr) (taken : Bool) → uses_stack instr ≡ false → is_pop instr taken ≡ false
no_pop (instrs.Pop qq) taken u = never _ _ refl u
no_pop instrs.Return taken u = never _ _ refl u
no_pop (instrs.ReturnIf cc') taken u = never _ _ refl u
no_pop instrs.ReturnFromInterrupt taken u = never _ _ refl u
no_pop instrs.ReturnFromNonMaskable taken u = never _ _ refl u
no_pop _ taken u = refl

pub no_exchange : (instr : Instr) → uses_stack instr ≡ false → is_exchange instr ≡ false
no_exchange (instrs.ExchangeStack p) u = never _ _ refl u
no_exchange _ u = refl

-- an instruction that does not set SP leaves the stack where it is
pub stack_same : (main : Bool) (instr : Instr) (s : AbsState) → sets_sp instr ≡ false → stack_set main instr s ≡ s
stack_same false instr s h = refl
stack_same true (instrs.LoadPair words.Sp nn) s h = never _ _ refl h
stack_same true (instrs.LoadPair words.Bc nn) s h = refl
stack_same true (instrs.LoadPair words.De nn) s h = refl
stack_same true (instrs.LoadPair words.Hl nn) s h = refl
stack_same true (instrs.LoadPair words.Ix nn) s h = refl
stack_same true (instrs.LoadPair words.Iy nn) s h = refl
stack_same true _ s h = refl

-- ---- values

pub value_same : (m n : Seen) → m.regs ≡ n.regs → m.words ≡ n.words → (v : Variable) → value_in m v ≡ value_in n v
value_same m n r w variables.A = ap (byte_in registers.A) r
value_same m n r w variables.B = ap (byte_in registers.B) r
value_same m n r w variables.C = ap (byte_in registers.C) r
value_same m n r w variables.D = ap (byte_in registers.D) r
value_same m n r w variables.E = ap (byte_in registers.E) r
value_same m n r w variables.H = ap (byte_in registers.H) r
value_same m n r w variables.L = ap (byte_in registers.L) r
value_same m n r w variables.Bc = ap (word_in pairs.Bc) r
value_same m n r w variables.De = ap (word_in pairs.De) r
value_same m n r w variables.Hl = ap (word_in pairs.Hl) r
value_same m n r w variables.Ix = ap (word_in pairs.Ix) r
value_same m n r w variables.Iy = ap (word_in pairs.Iy) r
value_same m n r w (variables.Slot number part) = ap (λ (ws : List ℕ). part_of part (slice_index ws number)) w
