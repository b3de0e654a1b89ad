-- The moves of an instruction that does not use the stack are tame before and after its test.
use Rattle.std.proofs.Common.{◌≡◌, ◌∙◌, Bool, true, false, not, List, refl, ap}
use Rattle.std.proofs.lemmas.Bool.{and_from}
use Rattle.z80_decode.specs.declared.instr.Instr.{Instr}
use Rattle.z80_decode.specs.declared.instr.Instr.TheVariants as instrs
use Rattle.z80_decode.specs.declared.kinds.BlockKind.TheVariants as blocks
use Rattle.z80_decode.specs.declared.operands.Address.TheVariants as addresses
use Rattle.z80_decode.specs.declared.operands.Direct.TheVariants as directs
use Rattle.z80_decode.specs.declared.operands.Index.TheVariants as indexes
use Rattle.z80_decode.specs.declared.operands.Memory.{Memory}
use Rattle.z80_decode.specs.declared.operands.Memory.TheVariants as memories
use Rattle.z80_decode.specs.declared.operands.Operand.TheVariants as operands
use Rattle.z80_decode.specs.declared.operands.Place.{Place}
use Rattle.z80_decode.specs.declared.operands.Place.TheVariants as places
use Rattle.z80_decode.specs.declared.operands.Register16.TheVariants as words
use Rattle.z80_decode.specs.declared.operands.Register8.{Register8}
use Rattle.z80_decode.specs.declared.operands.Register8.TheVariants as registers
use Rattle.z80_decode.specs.declared.operands.Special.TheVariants as specials
use Rattle.z80_moves.specs.Moves.{at_memory, changing, moves_of, reading}
use Rattle.z80_moves.specs.Operands.{byte_register, worked_at}
use Rattle.z80_moves.specs.declared.moves.Move.{Move}
use Rattle.abs_draft.specs.Outcomes.{before_test, behind_test}
use Rattle.abs_step.specs.Successors.{uses_stack}
use Rattle.abs_step.proofs.TameMoves.{are_tame, is_i, is_wild, tame}

-- the moves of an instruction are tame before and after its test
pub record IsTame (instr : Instr) : Type 0 where
  pub before : are_tame (before_test (moves_of instr)) ≡ true
  pub behind : are_tame (behind_test (moves_of instr)) ≡ true

-- those that are apart: jumps through a pair, HALT and LD I,A
abbrev pub is_apart : Instr → Bool
is_apart (instrs.JumpTo pointer) = true
is_apart instrs.Halt = true
is_apart (instrs.StoreASpecial specials.I) = true
is_apart _ = false

memory_tame : (m : Memory) (then : List Move) → are_tame then ≡ true → are_tame (at_memory m then) ≡ true
unfolding are_tame
memory_tame memories.AtHl then h = h
memory_tame (memories.At indexes.Ix d) then h = h
memory_tame (memories.At indexes.Iy d) then h = h

reading_tame : (p : Place) (move : Move) → not (is_wild move) ≡ true → are_tame (reading p move) ≡ true
unfolding are_tame
reading_tame (places.Register r) move h = and_from _ _ h refl
reading_tame (places.Memory m) move h = memory_tame m _ (and_from _ _ h refl)

changing_tame : (p : Place) (move : Move) → not (is_wild move) ≡ true → are_tame (changing p move) ≡ true
unfolding are_tame
changing_tame (places.Register r) move h = and_from _ _ h refl
changing_tame (places.Memory m) move h = memory_tame m _ (and_from _ _ h refl)

-- no operand is I
not_i : (r : Register8) → not (is_i (byte_register r)) ≡ true
not_i registers.A = refl
not_i registers.B = refl
not_i registers.C = refl
not_i registers.D = refl
not_i registers.E = refl
not_i registers.H = refl
not_i registers.L = refl

worked_not_i : (p : Place) → not (is_i (worked_at p)) ≡ true
worked_not_i (places.Register r) = not_i r
worked_not_i (places.Memory m) = refl

-- a list without a test is tame as a whole
whole : (ms : List Move) → are_tame ms ≡ true → (are_tame (before_test ms) ≡ true) × (are_tame (behind_test ms) ≡ true)
unfolding are_tame
whole ms h = let t = tame ms h in (ap are_tame t.before ∙ h, ap are_tame t.behind)

told : (instr : Instr) → are_tame (moves_of instr) ≡ true → IsTame instr
told instr h = let p = whole (moves_of instr) h in record { before = p.0; behind = p.1 }

never : (P : Type 0) → (let b : Bool = true in b) ≡ false → P
never P e = absurd (cc)

-- an instruction that does not use the stack and is not apart
pub tame_instr : (instr : Instr) → uses_stack instr ≡ false → is_apart instr ≡ false → IsTame instr
unfolding are_tame before_test behind_test
tame_instr (instrs.Push qq) u a = never _ u
tame_instr (instrs.Pop qq) u a = never _ u
tame_instr (instrs.ExchangeStack p) u a = never _ u
tame_instr (instrs.Call nn) u a = never _ u
tame_instr (instrs.CallIf cc' nn) u a = never _ u
tame_instr (instrs.Restart p) u a = never _ u
tame_instr instrs.Return u a = never _ u
tame_instr (instrs.ReturnIf cc') u a = never _ u
tame_instr instrs.ReturnFromInterrupt u a = never _ u
tame_instr instrs.ReturnFromNonMaskable u a = never _ u
tame_instr (instrs.JumpTo p) u a = never _ a
tame_instr instrs.Halt u a = never _ a
tame_instr (instrs.StoreASpecial specials.I) u a = never _ a
tame_instr (instrs.LoadRegister r (places.Register s)) u a = told (instrs.LoadRegister r (places.Register s)) (and_from _ _ (not_i r) refl)
tame_instr (instrs.LoadRegister r (places.Memory m)) u a = told (instrs.LoadRegister r (places.Memory m)) (memory_tame m _ (and_from _ _ (not_i r) refl))
tame_instr (instrs.LoadImmediate (places.Register r) n) u a = told (instrs.LoadImmediate (places.Register r) n) (and_from _ _ (not_i r) refl)
tame_instr (instrs.LoadImmediate (places.Memory m) n) u a = told (instrs.LoadImmediate (places.Memory m) n) (memory_tame m _ refl)
tame_instr (instrs.Store m r) u a = told (instrs.Store m r) (memory_tame m _ refl)
tame_instr (instrs.LoadA addresses.Bc) u a = told (instrs.LoadA addresses.Bc) refl
tame_instr (instrs.LoadA addresses.De) u a = told (instrs.LoadA addresses.De) refl
tame_instr (instrs.LoadA (addresses.Direct nn)) u a = told (instrs.LoadA (addresses.Direct nn)) refl
tame_instr (instrs.StoreA addresses.Bc) u a = told (instrs.StoreA addresses.Bc) refl
tame_instr (instrs.StoreA addresses.De) u a = told (instrs.StoreA addresses.De) refl
tame_instr (instrs.StoreA (addresses.Direct nn)) u a = told (instrs.StoreA (addresses.Direct nn)) refl
tame_instr (instrs.StoreASpecial specials.R) u a = told (instrs.StoreASpecial specials.R) refl
tame_instr (instrs.LoadPair words.Bc nn) u a = told (instrs.LoadPair words.Bc nn) refl
tame_instr (instrs.LoadPair words.De nn) u a = told (instrs.LoadPair words.De nn) refl
tame_instr (instrs.LoadPair words.Hl nn) u a = told (instrs.LoadPair words.Hl nn) refl
tame_instr (instrs.LoadPair words.Sp nn) u a = told (instrs.LoadPair words.Sp nn) refl
tame_instr (instrs.LoadPair words.Ix nn) u a = told (instrs.LoadPair words.Ix nn) refl
tame_instr (instrs.LoadPair words.Iy nn) u a = told (instrs.LoadPair words.Iy nn) refl
tame_instr (instrs.LoadPairDirect directs.ShortHl nn) u a = told (instrs.LoadPairDirect directs.ShortHl nn) refl
tame_instr (instrs.LoadPairDirect (directs.Pair words.Bc) nn) u a = told (instrs.LoadPairDirect (directs.Pair words.Bc) nn) refl
tame_instr (instrs.LoadPairDirect (directs.Pair words.De) nn) u a = told (instrs.LoadPairDirect (directs.Pair words.De) nn) refl
tame_instr (instrs.LoadPairDirect (directs.Pair words.Hl) nn) u a = told (instrs.LoadPairDirect (directs.Pair words.Hl) nn) refl
tame_instr (instrs.LoadPairDirect (directs.Pair words.Sp) nn) u a = told (instrs.LoadPairDirect (directs.Pair words.Sp) nn) refl
tame_instr (instrs.LoadPairDirect (directs.Pair words.Ix) nn) u a = told (instrs.LoadPairDirect (directs.Pair words.Ix) nn) refl
tame_instr (instrs.LoadPairDirect (directs.Pair words.Iy) nn) u a = told (instrs.LoadPairDirect (directs.Pair words.Iy) nn) refl
tame_instr (instrs.BlockLoad blocks.Increment) u a = record { before = refl; behind = refl }
tame_instr (instrs.BlockCompare blocks.Increment) u a = record { before = refl; behind = refl }
tame_instr (instrs.BlockLoad blocks.Decrement) u a = record { before = refl; behind = refl }
tame_instr (instrs.BlockCompare blocks.Decrement) u a = record { before = refl; behind = refl }
tame_instr (instrs.BlockLoad blocks.IncrementRepeat) u a = record { before = refl; behind = refl }
tame_instr (instrs.BlockCompare blocks.IncrementRepeat) u a = record { before = refl; behind = refl }
tame_instr (instrs.BlockLoad blocks.DecrementRepeat) u a = record { before = refl; behind = refl }
tame_instr (instrs.BlockCompare blocks.DecrementRepeat) u a = record { before = refl; behind = refl }
tame_instr (instrs.Arithmetic kind (operands.Place s)) u a = told (instrs.Arithmetic kind (operands.Place s)) (reading_tame s _ refl)
tame_instr (instrs.Arithmetic kind (operands.Immediate n)) u a = told (instrs.Arithmetic kind (operands.Immediate n)) refl
tame_instr (instrs.Increment p) u a = told (instrs.Increment p) (changing_tame p _ (worked_not_i p))
tame_instr (instrs.Decrement p) u a = told (instrs.Decrement p) (changing_tame p _ (worked_not_i p))
tame_instr (instrs.Shift kind p) u a = told (instrs.Shift kind p) (changing_tame p _ (worked_not_i p))
tame_instr (instrs.SetBit b p) u a = told (instrs.SetBit b p) (changing_tame p _ (worked_not_i p))
tame_instr (instrs.ResetBit b p) u a = told (instrs.ResetBit b p) (changing_tame p _ (worked_not_i p))
tame_instr (instrs.TestBit b p) u a = told (instrs.TestBit b p) (reading_tame p _ refl)
tame_instr (instrs.AddIndex indexes.Ix pp) u a = told (instrs.AddIndex indexes.Ix pp) refl
tame_instr (instrs.AddIndex indexes.Iy pp) u a = told (instrs.AddIndex indexes.Iy pp) refl
tame_instr (instrs.IncrementPair words.Bc) u a = told (instrs.IncrementPair words.Bc) refl
tame_instr (instrs.DecrementPair words.Bc) u a = told (instrs.DecrementPair words.Bc) refl
tame_instr (instrs.IncrementPair words.De) u a = told (instrs.IncrementPair words.De) refl
tame_instr (instrs.DecrementPair words.De) u a = told (instrs.DecrementPair words.De) refl
tame_instr (instrs.IncrementPair words.Hl) u a = told (instrs.IncrementPair words.Hl) refl
tame_instr (instrs.DecrementPair words.Hl) u a = told (instrs.DecrementPair words.Hl) refl
tame_instr (instrs.IncrementPair words.Sp) u a = told (instrs.IncrementPair words.Sp) refl
tame_instr (instrs.DecrementPair words.Sp) u a = told (instrs.DecrementPair words.Sp) refl
tame_instr (instrs.IncrementPair words.Ix) u a = told (instrs.IncrementPair words.Ix) refl
tame_instr (instrs.DecrementPair words.Ix) u a = told (instrs.DecrementPair words.Ix) refl
tame_instr (instrs.IncrementPair words.Iy) u a = told (instrs.IncrementPair words.Iy) refl
tame_instr (instrs.DecrementPair words.Iy) u a = told (instrs.DecrementPair words.Iy) refl
tame_instr _ u a = record { before = refl; behind = refl }
