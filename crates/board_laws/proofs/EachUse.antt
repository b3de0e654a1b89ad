-- Each instruction pushes, pops, exchanges, sets SP, or leaves SP and the stack alone.
use Rattle.std.proofs.Common.{◌≡◌, Bool, true, false, not, List, [], refl, ap}
use Rattle.std.proofs.lemmas.Bool.{and_from}
use Rattle.z80_decode.specs.declared.instr.Instr.{Instr}
use Rattle.z80_decode.specs.declared.instr.Instr.TheVariants as instrs
use Rattle.z80_decode.specs.declared.kinds.BlockKind.TheVariants as blocks
use Rattle.z80_decode.specs.declared.operands.Address.TheVariants as addresses
use Rattle.z80_decode.specs.declared.operands.Direct.TheVariants as directs
use Rattle.z80_decode.specs.declared.operands.Index.TheVariants as indexes
use Rattle.z80_decode.specs.declared.operands.Memory.{Memory}
use Rattle.z80_decode.specs.declared.operands.Memory.TheVariants as memories
use Rattle.z80_decode.specs.declared.operands.Operand.TheVariants as operands
use Rattle.z80_decode.specs.declared.operands.Place.{Place}
use Rattle.z80_decode.specs.declared.operands.Place.TheVariants as places
use Rattle.z80_decode.specs.declared.operands.Register16.TheVariants as words
use Rattle.z80_decode.specs.declared.operands.Special.TheVariants as specials
use Rattle.z80_moves.specs.Moves.{at_memory, changing, moves_of, reading}
use Rattle.z80_moves.specs.declared.moves.Move.{Move}
use Rattle.board_step.specs.Context.{ContextView}
use Rattle.board_step.specs.Reads.{outside_of}
use Rattle.board_step.specs.Step.{instr_draft}
use Rattle.board_laws.specs.Stackless.{are_stackless, is_stackless}
use Rattle.board_laws.specs.Uses.{is_aside, is_exchange, is_pop, is_push, sets_sp}
use Rattle.board_laws.proofs.StacklessMoves.{moves_keep_accesses}

memory_stackless : (m : Memory) (then : List Move) → are_stackless then ≡ true → are_stackless (at_memory m then) ≡ true
unfolding are_stackless
memory_stackless memories.AtHl then h = h
memory_stackless (memories.At indexes.Ix d) then h = h
memory_stackless (memories.At indexes.Iy d) then h = h

reading_stackless : (p : Place) (move : Move) → is_stackless move ≡ true → are_stackless (reading p move) ≡ true
unfolding are_stackless
reading_stackless (places.Register r) move h = and_from _ _ h refl
reading_stackless (places.Memory m) move h = memory_stackless m _ (and_from _ _ h refl)

changing_stackless : (p : Place) (move : Move) → is_stackless move ≡ true → are_stackless (changing p move) ≡ true
unfolding are_stackless
changing_stackless (places.Register r) move h = and_from _ _ h refl
changing_stackless (places.Memory m) move h = memory_stackless m _ (and_from _ _ h refl)

never : (P : Type 0) → (let b : Bool = true in b) ≡ false → P
never P e = absurd (cc)

pub told_apart : (instr : Instr) (taken : Bool) → is_push instr taken ≡ false → is_pop instr taken ≡ false → is_exchange instr ≡ false → sets_sp instr ≡ false → is_aside instr taken ≡ true
unfolding are_stackless
told_apart (instrs.Push qq) taken push pop exchange sets = never _ push
told_apart (instrs.Pop qq) taken push pop exchange sets = never _ pop
told_apart (instrs.ExchangeStack p) taken push pop exchange sets = never _ exchange
told_apart (instrs.Call nn) taken push pop exchange sets = never _ push
told_apart (instrs.CallIf cc' nn) taken push pop exchange sets = ap not push
told_apart (instrs.Restart p) taken push pop exchange sets = never _ push
told_apart instrs.Return taken push pop exchange sets = never _ pop
told_apart (instrs.ReturnIf cc') taken push pop exchange sets = ap not pop
told_apart instrs.ReturnFromInterrupt taken push pop exchange sets = never _ pop
told_apart instrs.ReturnFromNonMaskable taken push pop exchange sets = never _ pop
told_apart (instrs.LoadRegister r (places.Register s)) taken push pop exchange sets = refl
told_apart (instrs.LoadRegister r (places.Memory m)) taken push pop exchange sets = memory_stackless m _ refl
told_apart (instrs.LoadImmediate (places.Register r) n) taken push pop exchange sets = refl
told_apart (instrs.LoadImmediate (places.Memory m) n) taken push pop exchange sets = memory_stackless m _ refl
told_apart (instrs.Store m r) taken push pop exchange sets = memory_stackless m _ refl
told_apart (instrs.LoadA addresses.Bc) taken push pop exchange sets = refl
told_apart (instrs.LoadA addresses.De) taken push pop exchange sets = refl
told_apart (instrs.LoadA (addresses.Direct nn)) taken push pop exchange sets = refl
told_apart (instrs.StoreA addresses.Bc) taken push pop exchange sets = refl
told_apart (instrs.StoreA addresses.De) taken push pop exchange sets = refl
told_apart (instrs.StoreA (addresses.Direct nn)) taken push pop exchange sets = refl
told_apart (instrs.StoreASpecial specials.I) taken push pop exchange sets = refl
told_apart (instrs.StoreASpecial specials.R) taken push pop exchange sets = refl
told_apart (instrs.LoadPair words.Sp nn) taken push pop exchange sets = never _ sets
told_apart (instrs.LoadPair words.Bc nn) taken push pop exchange sets = refl
told_apart (instrs.LoadPair words.De nn) taken push pop exchange sets = refl
told_apart (instrs.LoadPair words.Hl nn) taken push pop exchange sets = refl
told_apart (instrs.LoadPair words.Ix nn) taken push pop exchange sets = refl
told_apart (instrs.LoadPair words.Iy nn) taken push pop exchange sets = refl
told_apart (instrs.LoadPairDirect directs.ShortHl nn) taken push pop exchange sets = refl
told_apart (instrs.LoadPairDirect (directs.Pair words.Sp) nn) taken push pop exchange sets = never _ sets
told_apart (instrs.LoadPairDirect (directs.Pair words.Bc) nn) taken push pop exchange sets = refl
told_apart (instrs.LoadPairDirect (directs.Pair words.De) nn) taken push pop exchange sets = refl
told_apart (instrs.LoadPairDirect (directs.Pair words.Hl) nn) taken push pop exchange sets = refl
told_apart (instrs.LoadPairDirect (directs.Pair words.Ix) nn) taken push pop exchange sets = refl
told_apart (instrs.LoadPairDirect (directs.Pair words.Iy) nn) taken push pop exchange sets = refl
told_apart (instrs.LoadSp p) taken push pop exchange sets = never _ sets
told_apart (instrs.BlockLoad blocks.Increment) taken push pop exchange sets = refl
told_apart (instrs.BlockLoad blocks.Decrement) taken push pop exchange sets = refl
told_apart (instrs.BlockLoad blocks.IncrementRepeat) taken push pop exchange sets = refl
told_apart (instrs.BlockLoad blocks.DecrementRepeat) taken push pop exchange sets = refl
told_apart (instrs.BlockCompare blocks.Increment) taken push pop exchange sets = refl
told_apart (instrs.BlockCompare blocks.Decrement) taken push pop exchange sets = refl
told_apart (instrs.BlockCompare blocks.IncrementRepeat) taken push pop exchange sets = refl
told_apart (instrs.BlockCompare blocks.DecrementRepeat) taken push pop exchange sets = refl
told_apart (instrs.Arithmetic kind (operands.Place s)) taken push pop exchange sets = reading_stackless s _ refl
told_apart (instrs.Arithmetic kind (operands.Immediate n)) taken push pop exchange sets = refl
told_apart (instrs.Increment p) taken push pop exchange sets = changing_stackless p _ refl
told_apart (instrs.Decrement p) taken push pop exchange sets = changing_stackless p _ refl
told_apart (instrs.AddIndex indexes.Ix pp) taken push pop exchange sets = refl
told_apart (instrs.AddIndex indexes.Iy pp) taken push pop exchange sets = refl
told_apart (instrs.IncrementPair words.Sp) taken push pop exchange sets = never _ sets
told_apart (instrs.IncrementPair words.Bc) taken push pop exchange sets = refl
told_apart (instrs.IncrementPair words.De) taken push pop exchange sets = refl
told_apart (instrs.IncrementPair words.Hl) taken push pop exchange sets = refl
told_apart (instrs.IncrementPair words.Ix) taken push pop exchange sets = refl
told_apart (instrs.IncrementPair words.Iy) taken push pop exchange sets = refl
told_apart (instrs.DecrementPair words.Sp) taken push pop exchange sets = never _ sets
told_apart (instrs.DecrementPair words.Bc) taken push pop exchange sets = refl
told_apart (instrs.DecrementPair words.De) taken push pop exchange sets = refl
told_apart (instrs.DecrementPair words.Hl) taken push pop exchange sets = refl
told_apart (instrs.DecrementPair words.Ix) taken push pop exchange sets = refl
told_apart (instrs.DecrementPair words.Iy) taken push pop exchange sets = refl
told_apart (instrs.Shift kind p) taken push pop exchange sets = changing_stackless p _ refl
told_apart (instrs.TestBit b p) taken push pop exchange sets = reading_stackless p _ refl
told_apart (instrs.SetBit b p) taken push pop exchange sets = changing_stackless p _ refl
told_apart (instrs.ResetBit b p) taken push pop exchange sets = changing_stackless p _ refl
told_apart _ taken push pop exchange sets = refl

missing : (P : Type 0) → (let b : Bool = false in b) ≡ true → P
missing P e = absurd (cc)

-- an instruction that loads, increments or decrements SP makes no stack access
pub sets_without_access : (c : ContextView) (instr : Instr) → sets_sp instr ≡ true → (instr_draft c instr).stack ≡ []
sets_without_access c (instrs.LoadPair words.Sp nn) h = moves_keep_accesses (outside_of c) (moves_of (instrs.LoadPair words.Sp nn)) _ refl
sets_without_access c (instrs.LoadPairDirect (directs.Pair words.Sp) nn) h = moves_keep_accesses (outside_of c) (moves_of (instrs.LoadPairDirect (directs.Pair words.Sp) nn)) _ refl
sets_without_access c (instrs.LoadSp p) h = moves_keep_accesses (outside_of c) (moves_of (instrs.LoadSp p)) _ refl
sets_without_access c (instrs.IncrementPair words.Sp) h = moves_keep_accesses (outside_of c) (moves_of (instrs.IncrementPair words.Sp)) _ refl
sets_without_access c (instrs.DecrementPair words.Sp) h = moves_keep_accesses (outside_of c) (moves_of (instrs.DecrementPair words.Sp)) _ refl
sets_without_access c _ h = missing _ h
