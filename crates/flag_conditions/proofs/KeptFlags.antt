-- Each instruction leaves alone the flags that the table says.
use Rattle.std.proofs.Common.{◌≡◌, ◌∙◌, ℕ, Bool, true, false, cond, not, List, refl, ap}
use Rattle.z80_alu.proofs.FlagsLemmas.{flags_of-flags_byte}
use Rattle.z80_alu.specs.Add.{increment8_flags, decrement8_flags}
use Rattle.z80_alu.specs.Bits.{test_bit_flags}
use Rattle.z80_alu.specs.Block.{block_load_flags, block_compare_flags}
use Rattle.z80_alu.specs.Digits.{rotate_digit_flags}
use Rattle.z80_alu.specs.Flags.{flags_byte, flags_of}
use Rattle.z80_alu.specs.Load.{load_a_flags}
use Rattle.z80_alu.specs.Logic.{cpl_flags, scf_flags, ccf_flags}
use Rattle.z80_alu.specs.Rotate.{rotate_a_flags}
use Rattle.z80_alu.specs.Words.{sum16_flags}
use Rattle.z80_alu.specs.declared.flags.Flags.{Flags}
use Rattle.z80_alu.specs.declared.regs.Regs.{Regs}
use Rattle.z80_decode.specs.declared.instr.Instr.{Instr}
use Rattle.z80_decode.specs.declared.instr.Instr.TheVariants.{Nop, Halt, DisableInterrupts, EnableInterrupts, InterruptMode, LoadRegister, LoadImmediate, Store, LoadA, StoreA, LoadASpecial, StoreASpecial, LoadPair, LoadPairDirect, StorePairDirect, LoadSp, Push, Pop, ExchangeDeHl, ExchangeAf, ExchangeSets, ExchangeStack, BlockLoad, BlockCompare, BlockInput, BlockOutput, Arithmetic, Increment, Decrement, DecimalAdjust, Complement, Negate, ComplementCarry, SetCarry, AddHl, AdcHl, SbcHl, AddIndex, IncrementPair, DecrementPair, RotateA, Shift, RotateDigitsLeft, RotateDigitsRight, TestBit, SetBit, ResetBit, Jump, JumpIf, JumpRelative, JumpRelativeIf, JumpTo, DecrementJump, Call, CallIf, Restart, Return, ReturnIf, ReturnFromInterrupt, ReturnFromNonMaskable, InputImmediate, InputRegister, OutputImmediate, OutputRegister}
use Rattle.z80_decode.specs.declared.kinds.BlockKind.TheVariants as blocks
use Rattle.z80_decode.specs.declared.operands.Address.TheVariants as addresses
use Rattle.z80_decode.specs.declared.operands.Direct.{Direct}
use Rattle.z80_decode.specs.declared.operands.Direct.TheVariants as directs
use Rattle.z80_decode.specs.declared.operands.Memory.{Memory}
use Rattle.z80_decode.specs.declared.operands.Memory.TheVariants as memories
use Rattle.z80_decode.specs.declared.operands.Place.TheVariants as places
use Rattle.z80_decode.specs.declared.operands.Pointer.{Pointer}
use Rattle.z80_decode.specs.declared.operands.Pointer.TheVariants as pointers
use Rattle.z80_decode.specs.declared.operands.Register16.{Register16}
use Rattle.z80_decode.specs.declared.operands.Register16.TheVariants as register16
use Rattle.z80_decode.specs.declared.operands.Register8.{Register8}
use Rattle.z80_decode.specs.declared.operands.Register8.TheVariants as registers
use Rattle.z80_decode.specs.declared.operands.Special.TheVariants as specials
use Rattle.z80_decode.specs.declared.operands.StackPair.TheVariants as stack_pairs
use Rattle.z80_draft.specs.Draft.{DraftView, draft_on, drafted, moved, past, with_byte, with_word}
use Rattle.z80_draft.specs.Outside.{Outside}
use Rattle.z80_moves.specs.Moves.{at_memory, moves_of}
use Rattle.z80_moves.specs.Operands.{byte_register, word_register, pointer_register, direct_register}
use Rattle.z80_moves.specs.declared.moves.Move.{Move}
use Rattle.flag_parts.specs.Parts.{flag_of}
use Rattle.flag_letters.specs.declared.letter.Letter.{Letter}
use Rattle.flag_letters.specs.declared.letter.Letter.TheVariants.{Zero, ZeroIfBelow, CarryIfBelow, SignIfBelow}
use Rattle.flag_conditions.specs.FlagChanges.{changes_of, leaves}
use Rattle.flag_conditions.specs.declared.changes.FlagChanges.{FlagChanges}
use Rattle.flag_conditions.specs.declared.changes.FlagChanges.TheVariants.{Nothing, CarryAlone, AllButCarry, All}

-- ---- what is left alone of two sets of flags

-- Z, C and S are the same
record SameFlags (f g : Flags) : Type 0 where
  zero : g.zero ≡ f.zero
  carry : g.carry ≡ f.carry
  sign : g.sign ≡ f.sign

-- Z and S are the same
record SameResult (f g : Flags) : Type 0 where
  zero : g.zero ≡ f.zero
  sign : g.sign ≡ f.sign

abbrev KeepsAs : FlagChanges → Flags → Flags → Type 0
KeepsAs Nothing f g = SameFlags f g
KeepsAs CarryAlone f g = SameResult f g
KeepsAs AllButCarry f g = g.carry ≡ f.carry
KeepsAs All f g = Unit {0}

kept_letter : (changes : FlagChanges) (letter : Letter) (f g : Flags) → leaves changes letter ≡ true → KeepsAs changes f g → flag_of letter g ≡ flag_of letter f
kept_letter Nothing Zero f g e k = k.zero
kept_letter Nothing ZeroIfBelow f g e k = k.zero
kept_letter Nothing CarryIfBelow f g e k = k.carry
kept_letter Nothing SignIfBelow f g e k = k.sign
kept_letter CarryAlone Zero f g e k = k.zero
kept_letter CarryAlone ZeroIfBelow f g e k = k.zero
kept_letter CarryAlone CarryIfBelow f g e k = cc
kept_letter CarryAlone SignIfBelow f g e k = k.sign
kept_letter AllButCarry Zero f g e k = cc
kept_letter AllButCarry ZeroIfBelow f g e k = cc
kept_letter AllButCarry CarryIfBelow f g e k = k
kept_letter AllButCarry SignIfBelow f g e k = cc
kept_letter All Zero f g e k = cc
kept_letter All ZeroIfBelow f g e k = cc
kept_letter All CarryIfBelow f g e k = cc
kept_letter All SignIfBelow f g e k = cc

-- ---- F after the moves

-- F of a draft is as it was
same_f : (f g : ℕ) → g ≡ f → SameFlags (flags_of f) (flags_of g)
same_f f g e = record {
  zero = ap (λ n. (flags_of n).zero) e;
  carry = ap (λ n. (flags_of n).carry) e;
  sign = ap (λ n. (flags_of n).sign) e;
}

same_result : (f new : Flags) → new.zero ≡ f.zero → new.sign ≡ f.sign → SameResult f (flags_of (flags_byte new))
same_result f new z s = record {
  zero = ap (λ (g : Flags). g.zero) (flags_of-flags_byte new) ∙ z;
  sign = ap (λ (g : Flags). g.sign) (flags_of-flags_byte new) ∙ s;
}

same_flags : (f new : Flags) → new.zero ≡ f.zero → new.carry ≡ f.carry → new.sign ≡ f.sign → SameFlags f (flags_of (flags_byte new))
same_flags f new z c s = record {
  zero = ap (λ (g : Flags). g.zero) (flags_of-flags_byte new) ∙ z;
  carry = ap (λ (g : Flags). g.carry) (flags_of-flags_byte new) ∙ c;
  sign = ap (λ (g : Flags). g.sign) (flags_of-flags_byte new) ∙ s;
}

same_carry : (new : Flags) (c : Bool) → new.carry ≡ c → (flags_of (flags_byte new)).carry ≡ c
same_carry new c e = ap (λ (g : Flags). g.carry) (flags_of-flags_byte new) ∙ e

f_of_byte : (r : Register8) (n : ℕ) (e : DraftView) → (with_byte (byte_register r) n e).regs.main.f ≡ e.regs.main.f
f_of_byte registers.B n e = refl
f_of_byte registers.C n e = refl
f_of_byte registers.D n e = refl
f_of_byte registers.E n e = refl
f_of_byte registers.H n e = refl
f_of_byte registers.L n e = refl
f_of_byte registers.A n e = refl

f_of_word : (w : Register16) (n : ℕ) (e : DraftView) → (with_word (word_register w) n e).regs.main.f ≡ e.regs.main.f
f_of_word register16.Bc n e = refl
f_of_word register16.De n e = refl
f_of_word register16.Hl n e = refl
f_of_word register16.Sp n e = refl
f_of_word register16.Ix n e = refl
f_of_word register16.Iy n e = refl

f_of_direct : (w : Direct) (n : ℕ) (e : DraftView) → (with_word (direct_register w) n e).regs.main.f ≡ e.regs.main.f
f_of_direct directs.ShortHl n e = refl
f_of_direct (directs.Pair w) n e = f_of_word w n e

f_of_pointer : (w : Pointer) (n : ℕ) (e : DraftView) → (with_word (pointer_register w) n e).regs.main.f ≡ e.regs.main.f
f_of_pointer pointers.Hl n e = refl
f_of_pointer pointers.Ix n e = refl
f_of_pointer pointers.Iy n e = refl

-- moves on a byte in memory: only the pointer is set before
pub at_any : (o : Outside) (P : DraftView → Type 0) (m : Memory) (rest : List Move) (e : DraftView) → ((at : ℕ) → P (drafted o rest (record e { pointer = at }))) → P (drafted o (at_memory m rest) e)
unfolding drafted moved
at_any o P memories.AtHl rest e h = h _
at_any o P (memories.At index d) rest e h = h _

-- the moves behind a test are made or not
either : (P : DraftView → Type 0) (b : Bool) (x y : DraftView) → P x → P y → P (cond b x y)
either P true x y h k = h
either P false x y h k = k

module _ (o : Outside) (n : ℕ) (regs : Regs) where
  -- F is as it was
  abbrev Stays : DraftView → Type 0
  Stays d = SameFlags (flags_of regs.main.f) (flags_of d.regs.main.f)

  -- C is as it was
  abbrev CarryStays : DraftView → Type 0
  CarryStays d = (flags_of d.regs.main.f).carry ≡ (flags_of regs.main.f).carry

  stays : (f : ℕ) → f ≡ regs.main.f → SameFlags (flags_of regs.main.f) (flags_of f)
  stays f e = same_f regs.main.f f e

  keeps : (instr : Instr) → KeepsAs (changes_of instr) (flags_of regs.main.f) (flags_of (drafted o (moves_of instr) (draft_on (past n regs))).regs.main.f)
  unfolding changes_of drafted moved increment8_flags decrement8_flags test_bit_flags block_load_flags block_compare_flags rotate_digit_flags load_a_flags cpl_flags scf_flags ccf_flags rotate_a_flags sum16_flags
  keeps Nop = stays _ refl
  keeps Halt = stays _ refl
  keeps DisableInterrupts = stays _ refl
  keeps EnableInterrupts = stays _ refl
  keeps (InterruptMode mode) = stays _ refl
  keeps (LoadRegister r (places.Register s)) = stays _ (f_of_byte r _ _)
  keeps (LoadRegister r (places.Memory m)) = at_any o Stays m _ _ (λ at. stays _ (f_of_byte r _ _))
  keeps (LoadImmediate (places.Register r) v) = stays _ (f_of_byte r _ _)
  keeps (LoadImmediate (places.Memory m) v) = at_any o Stays m _ _ (λ at. stays _ refl)
  keeps (Store m r) = at_any o Stays m _ _ (λ at. stays _ refl)
  keeps (LoadA addresses.Bc) = stays _ refl
  keeps (LoadA addresses.De) = stays _ refl
  keeps (LoadA (addresses.Direct nn)) = stays _ refl
  keeps (StoreA addresses.Bc) = stays _ refl
  keeps (StoreA addresses.De) = stays _ refl
  keeps (StoreA (addresses.Direct nn)) = stays _ refl
  keeps (LoadASpecial special) = same_carry _ _ refl
  keeps (StoreASpecial specials.I) = stays _ refl
  keeps (StoreASpecial specials.R) = stays _ refl
  keeps (LoadPair dd nn) = stays _ (f_of_word dd _ _)
  keeps (LoadPairDirect dd nn) = stays _ (f_of_direct dd _ _)
  keeps (StorePairDirect dd nn) = stays _ refl
  keeps (LoadSp pointer) = stays _ refl
  keeps (Push qq) = stays _ refl
  keeps (Pop stack_pairs.Bc) = stays _ refl
  keeps (Pop stack_pairs.De) = stays _ refl
  keeps (Pop stack_pairs.Hl) = stays _ refl
  keeps (Pop stack_pairs.Af) = tt
  keeps (Pop stack_pairs.Ix) = stays _ refl
  keeps (Pop stack_pairs.Iy) = stays _ refl
  keeps ExchangeDeHl = stays _ refl
  keeps ExchangeAf = tt
  keeps ExchangeSets = stays _ refl
  keeps (ExchangeStack pointer) = stays _ (f_of_pointer pointer _ _)
  keeps (BlockLoad blocks.Increment) = same_flags _ _ refl refl refl
  keeps (BlockLoad blocks.Decrement) = same_flags _ _ refl refl refl
  keeps (BlockLoad blocks.IncrementRepeat) = either Stays _ _ _ (same_flags _ _ refl refl refl) (same_flags _ _ refl refl refl)
  keeps (BlockLoad blocks.DecrementRepeat) = either Stays _ _ _ (same_flags _ _ refl refl refl) (same_flags _ _ refl refl refl)
  keeps (BlockCompare blocks.Increment) = same_carry _ _ refl
  keeps (BlockCompare blocks.Decrement) = same_carry _ _ refl
  keeps (BlockCompare blocks.IncrementRepeat) = either CarryStays _ _ _ (same_carry _ _ refl) (same_carry _ _ refl)
  keeps (BlockCompare blocks.DecrementRepeat) = either CarryStays _ _ _ (same_carry _ _ refl) (same_carry _ _ refl)
  keeps (BlockInput kind) = stays _ refl
  keeps (BlockOutput kind) = stays _ refl
  keeps (Arithmetic kind s) = tt
  keeps (Increment (places.Register r)) = same_carry _ _ refl
  keeps (Increment (places.Memory m)) = at_any o CarryStays m _ _ (λ at. same_carry _ _ refl)
  keeps (Decrement (places.Register r)) = same_carry _ _ refl
  keeps (Decrement (places.Memory m)) = at_any o CarryStays m _ _ (λ at. same_carry _ _ refl)
  keeps DecimalAdjust = tt
  keeps Complement = same_flags _ _ refl refl refl
  keeps Negate = tt
  keeps ComplementCarry = same_result _ _ refl refl
  keeps SetCarry = same_result _ _ refl refl
  keeps (AddHl ss) = same_result _ _ refl refl
  keeps (AdcHl ss) = tt
  keeps (SbcHl ss) = tt
  keeps (AddIndex index pp) = same_result _ _ refl refl
  keeps (IncrementPair ss) = stays _ (f_of_word ss _ _)
  keeps (DecrementPair ss) = stays _ (f_of_word ss _ _)
  keeps (RotateA kind) = same_result _ _ refl refl
  keeps (Shift kind m) = tt
  keeps RotateDigitsLeft = same_carry _ _ refl
  keeps RotateDigitsRight = same_carry _ _ refl
  keeps (TestBit b (places.Register r)) = same_carry _ _ refl
  keeps (TestBit b (places.Memory m)) = at_any o CarryStays m _ _ (λ at. same_carry _ _ refl)
  keeps (SetBit b (places.Register r)) = stays _ (f_of_byte r _ _)
  keeps (SetBit b (places.Memory m)) = at_any o Stays m _ _ (λ at. stays _ refl)
  keeps (ResetBit b (places.Register r)) = stays _ (f_of_byte r _ _)
  keeps (ResetBit b (places.Memory m)) = at_any o Stays m _ _ (λ at. stays _ refl)
  keeps (Jump nn) = stays _ refl
  keeps (JumpIf condition nn) = either Stays _ _ _ (stays _ refl) (stays _ refl)
  keeps (JumpRelative by) = stays _ refl
  keeps (JumpRelativeIf condition by) = either Stays _ _ _ (stays _ refl) (stays _ refl)
  keeps (JumpTo pointer) = stays _ refl
  keeps (DecrementJump by) = either Stays _ _ _ (stays _ refl) (stays _ refl)
  keeps (Call nn) = stays _ refl
  keeps (CallIf condition nn) = either Stays _ _ _ (stays _ refl) (stays _ refl)
  keeps (Restart p) = stays _ refl
  keeps Return = stays _ refl
  keeps (ReturnIf condition) = either Stays _ _ _ (stays _ refl) (stays _ refl)
  keeps ReturnFromInterrupt = stays _ refl
  keeps ReturnFromNonMaskable = stays _ refl
  keeps (InputImmediate port) = stays _ refl
  keeps (InputRegister r) = stays _ refl
  keeps (OutputImmediate port) = stays _ refl
  keeps (OutputRegister r) = stays _ refl

  pub left_alone : (instr : Instr) (letter : Letter) → leaves (changes_of instr) letter ≡ true → flag_of letter (flags_of (drafted o (moves_of instr) (draft_on (past n regs))).regs.main.f) ≡ flag_of letter (flags_of regs.main.f)
  left_alone instr letter e = kept_letter (changes_of instr) letter _ _ e (keeps instr)

  -- CCF turns C
  pub carry_turned : (flags_of (drafted o (moves_of ComplementCarry) (draft_on (past n regs))).regs.main.f).carry ≡ not (flags_of regs.main.f).carry
  unfolding drafted moved ccf_flags
  carry_turned = same_carry _ _ refl
