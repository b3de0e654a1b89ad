-- The decoder finds each instruction at the front of its spelling, whatever follows. It finds some instruction at the
-- front of each beginning of a spelling.
use Rattle.std.proofs.Common.{◌≡◌, ℕ, ◌/◌, ◌%◌, List, [], ◌++◌, length, take, refl, ◌∙◌, ap, arith, Option, Some, Bool, true, ◌&&◌, map, is_some}
use Rattle.std.specs.Prelude.{nat_le}
use Rattle.z80_decode.specs.declared.operands.Operand.TheVariants as operands
use Rattle.z80_decode.specs.declared.operands.Address.TheVariants as addresses
use Rattle.z80_decode.specs.declared.instr.Instr.{Instr}
use Rattle.z80_decode.specs.declared.instr.Instr.TheVariants.{Nop, Halt, DisableInterrupts, EnableInterrupts, InterruptMode, LoadRegister, LoadImmediate, Store, LoadA, StoreA, LoadASpecial, StoreASpecial, LoadPair, LoadPairDirect, StorePairDirect, LoadSp, Push, Pop, ExchangeDeHl, ExchangeAf, ExchangeSets, ExchangeStack, BlockLoad, BlockCompare, BlockInput, BlockOutput, Arithmetic, Increment, Decrement, DecimalAdjust, Complement, Negate, ComplementCarry, SetCarry, AddHl, AdcHl, SbcHl, AddIndex, IncrementPair, DecrementPair, RotateA, Shift, RotateDigitsLeft, RotateDigitsRight, TestBit, SetBit, ResetBit, Jump, JumpIf, JumpRelative, JumpRelativeIf, JumpTo, DecrementJump, Call, CallIf, Restart, Return, ReturnIf, ReturnFromInterrupt, ReturnFromNonMaskable, InputImmediate, InputRegister, OutputImmediate, OutputRegister}
use Rattle.z80_decode.specs.Spelling.{spelling}
use Rattle.z80_decode.specs.Decoding.{word_from, first_instr}
use Rattle.z80_decode.proofs.EachOperand.{each_register, registers_all, each_word_pair, each_stack_pair, each_pair, each_index_pair, index_pairs_all, each_pointer, each_index, each_special, each_condition, each_short_condition, each_operation, operations_all, each_shift, shifts_all, each_rotate, each_block, each_bit, bits_all, each_restart, each_mode, each_memory, each_place, each_direct}

-- whether there is an instruction at the front of these bytes
abbrev pub has_some : List ℕ → Bool
has_some bytes = is_some (first_instr bytes)

-- what the decoder finds in a spelling with more bytes after it; whether each beginning has some instruction; whether
-- the spelling has at most four bytes
abbrev pub readings : List ℕ → Instr → Option Instr × Bool × Bool
readings rest i = (first_instr (spelling i ++ rest), has_some [] && has_some (take 1 (spelling i)) && has_some (take 2 (spelling i)) && has_some (take 3 (spelling i)), nat_le (length (spelling i)) 4)

-- the readings that an instruction should have
abbrev pub good : Instr → Option Instr × Bool × Bool
good i = (Some i, true, true)

-- a word read from its two bytes
abbrev read_again : ℕ → ℕ
read_again n = word_from (n % 256) (n / 256)

read_again_lem : (n : ℕ) → read_again n ≡ n
read_again_lem n = omega arith

-- the same for an instruction whose word was read from its bytes
with_word : (instr_with : ℕ → Instr) (rest : List ℕ) (n : ℕ) → readings rest (instr_with n) ≡ good (instr_with (read_again n)) → readings rest (instr_with n) ≡ good (instr_with n)
with_word instr_with rest n same = same ∙ ap (λ m. good (instr_with m)) (read_again_lem n)

pub complete : (rest : List ℕ) (i : Instr) → readings rest i ≡ good i
complete rest Nop = refl
complete rest Halt = refl
complete rest DisableInterrupts = refl
complete rest EnableInterrupts = refl
complete rest ExchangeDeHl = refl
complete rest ExchangeAf = refl
complete rest ExchangeSets = refl
complete rest DecimalAdjust = refl
complete rest Complement = refl
complete rest Negate = refl
complete rest ComplementCarry = refl
complete rest SetCarry = refl
complete rest RotateDigitsLeft = refl
complete rest RotateDigitsRight = refl
complete rest Return = refl
complete rest ReturnFromInterrupt = refl
complete rest ReturnFromNonMaskable = refl
complete rest (JumpRelative n) = refl
complete rest (DecrementJump n) = refl
complete rest (InputImmediate n) = refl
complete rest (OutputImmediate n) = refl
complete rest (Jump nn) = with_word Jump rest nn refl
complete rest (Call nn) = with_word Call rest nn refl
complete rest (LoadA addresses.Bc) = refl
complete rest (LoadA addresses.De) = refl
complete rest (LoadA (addresses.Direct nn)) = with_word (λ n. LoadA (addresses.Direct n)) rest nn refl
complete rest (StoreA addresses.Bc) = refl
complete rest (StoreA addresses.De) = refl
complete rest (StoreA (addresses.Direct nn)) = with_word (λ n. StoreA (addresses.Direct n)) rest nn refl
complete rest (InterruptMode x) = each_mode (λ v. readings rest (InterruptMode v)) (λ v. good (InterruptMode v)) refl x
complete rest (LoadASpecial x) = each_special (λ v. readings rest (LoadASpecial v)) (λ v. good (LoadASpecial v)) refl x
complete rest (StoreASpecial x) = each_special (λ v. readings rest (StoreASpecial v)) (λ v. good (StoreASpecial v)) refl x
complete rest (LoadSp x) = each_pointer (λ v. readings rest (LoadSp v)) (λ v. good (LoadSp v)) refl x
complete rest (ExchangeStack x) = each_pointer (λ v. readings rest (ExchangeStack v)) (λ v. good (ExchangeStack v)) refl x
complete rest (JumpTo x) = each_pointer (λ v. readings rest (JumpTo v)) (λ v. good (JumpTo v)) refl x
complete rest (Push x) = each_stack_pair (λ v. readings rest (Push v)) (λ v. good (Push v)) refl x
complete rest (Pop x) = each_stack_pair (λ v. readings rest (Pop v)) (λ v. good (Pop v)) refl x
complete rest (BlockLoad x) = each_block (λ v. readings rest (BlockLoad v)) (λ v. good (BlockLoad v)) refl x
complete rest (BlockCompare x) = each_block (λ v. readings rest (BlockCompare v)) (λ v. good (BlockCompare v)) refl x
complete rest (BlockInput x) = each_block (λ v. readings rest (BlockInput v)) (λ v. good (BlockInput v)) refl x
complete rest (BlockOutput x) = each_block (λ v. readings rest (BlockOutput v)) (λ v. good (BlockOutput v)) refl x
complete rest (AddHl x) = each_pair (λ v. readings rest (AddHl v)) (λ v. good (AddHl v)) refl x
complete rest (AdcHl x) = each_pair (λ v. readings rest (AdcHl v)) (λ v. good (AdcHl v)) refl x
complete rest (SbcHl x) = each_pair (λ v. readings rest (SbcHl v)) (λ v. good (SbcHl v)) refl x
complete rest (IncrementPair x) = each_word_pair (λ v. readings rest (IncrementPair v)) (λ v. good (IncrementPair v)) refl x
complete rest (DecrementPair x) = each_word_pair (λ v. readings rest (DecrementPair v)) (λ v. good (DecrementPair v)) refl x
complete rest (RotateA x) = each_rotate (λ v. readings rest (RotateA v)) (λ v. good (RotateA v)) refl x
complete rest (Restart x) = each_restart (λ v. readings rest (Restart v)) (λ v. good (Restart v)) refl x
complete rest (ReturnIf x) = each_condition (λ v. readings rest (ReturnIf v)) (λ v. good (ReturnIf v)) refl x
complete rest (InputRegister x) = each_register (λ v. readings rest (InputRegister v)) (λ v. good (InputRegister v)) refl x
complete rest (OutputRegister x) = each_register (λ v. readings rest (OutputRegister v)) (λ v. good (OutputRegister v)) refl x
complete rest (Increment p) = each_place (λ v. readings rest (Increment v)) (λ v. good (Increment v)) refl refl (λ _. refl) p
complete rest (Decrement p) = each_place (λ v. readings rest (Decrement v)) (λ v. good (Decrement v)) refl refl (λ _. refl) p
complete rest (LoadImmediate p n) = each_place (λ v. readings rest (LoadImmediate v n)) (λ v. good (LoadImmediate v n)) refl refl (λ _. refl) p
complete rest (Arithmetic k (operands.Immediate n)) = each_operation (λ v. readings rest (Arithmetic v (operands.Immediate n))) (λ v. good (Arithmetic v (operands.Immediate n))) refl k
complete rest (JumpRelativeIf cc e) = each_short_condition (λ v. readings rest (JumpRelativeIf v e)) (λ v. good (JumpRelativeIf v e)) refl cc
complete rest (AddIndex i pp) = each_index_pair (λ v. readings rest (AddIndex i v)) (λ v. good (AddIndex i v)) (each_index (λ j. map (λ v. readings rest (AddIndex j v)) index_pairs_all) (λ j. map (λ v. good (AddIndex j v)) index_pairs_all) refl i) pp
complete rest (JumpIf x nn) = with_word (JumpIf x) rest nn (each_condition (λ v. readings rest (JumpIf v nn)) (λ v. good (JumpIf v (read_again nn))) refl x)
complete rest (CallIf x nn) = with_word (CallIf x) rest nn (each_condition (λ v. readings rest (CallIf v nn)) (λ v. good (CallIf v (read_again nn))) refl x)
complete rest (LoadPair x nn) = with_word (LoadPair x) rest nn (each_word_pair (λ v. readings rest (LoadPair v nn)) (λ v. good (LoadPair v (read_again nn))) refl x)
complete rest (LoadPairDirect x nn) = with_word (LoadPairDirect x) rest nn (each_direct (λ v. readings rest (LoadPairDirect v nn)) (λ v. good (LoadPairDirect v (read_again nn))) refl refl x)
complete rest (StorePairDirect x nn) = with_word (StorePairDirect x) rest nn (each_direct (λ v. readings rest (StorePairDirect v nn)) (λ v. good (StorePairDirect v (read_again nn))) refl refl x)
complete rest (Store m r) = each_register (λ v. readings rest (Store m v)) (λ v. good (Store m v)) (each_memory (λ n. map (λ v. readings rest (Store n v)) registers_all) (λ n. map (λ v. good (Store n v)) registers_all) refl (λ _. refl) m) r
complete rest (LoadRegister x p) = each_register (λ v. readings rest (LoadRegister v p)) (λ v. good (LoadRegister v p)) (each_place (λ q. map (λ v. readings rest (LoadRegister v q)) registers_all) (λ q. map (λ v. good (LoadRegister v q)) registers_all) refl refl (λ _. refl) p) x
complete rest (Shift x p) = each_shift (λ v. readings rest (Shift v p)) (λ v. good (Shift v p)) (each_place (λ q. map (λ v. readings rest (Shift v q)) shifts_all) (λ q. map (λ v. good (Shift v q)) shifts_all) refl refl (λ _. refl) p) x
complete rest (TestBit x p) = each_bit (λ v. readings rest (TestBit v p)) (λ v. good (TestBit v p)) (each_place (λ q. map (λ v. readings rest (TestBit v q)) bits_all) (λ q. map (λ v. good (TestBit v q)) bits_all) refl refl (λ _. refl) p) x
complete rest (SetBit x p) = each_bit (λ v. readings rest (SetBit v p)) (λ v. good (SetBit v p)) (each_place (λ q. map (λ v. readings rest (SetBit v q)) bits_all) (λ q. map (λ v. good (SetBit v q)) bits_all) refl refl (λ _. refl) p) x
complete rest (ResetBit x p) = each_bit (λ v. readings rest (ResetBit v p)) (λ v. good (ResetBit v p)) (each_place (λ q. map (λ v. readings rest (ResetBit v q)) bits_all) (λ q. map (λ v. good (ResetBit v q)) bits_all) refl refl (λ _. refl) p) x
complete rest (Arithmetic x (operands.Place p)) = each_operation (λ v. readings rest (Arithmetic v (operands.Place p))) (λ v. good (Arithmetic v (operands.Place p))) (each_place (λ q. map (λ v. readings rest (Arithmetic v (operands.Place q))) operations_all) (λ q. map (λ v. good (Arithmetic v (operands.Place q))) operations_all) refl refl (λ _. refl) p) x
