-- Soundness of each kind of move without stack accesses.
use Rattle.std.proofs.Common.{◌≡◌, ℕ, ◌+◌, ◌-◌, ◌<◌, ◌≤◌, Bool, true, false, refl, arith, List, length, None}
use Rattle.z80_alu.proofs.FlagsLemmas.{zero_of_difference8}
use Rattle.z80_alu.proofs.RangeLemmas.{shifted-lt, decimal_adjusted-lt, bit_set-lt, bit_reset-lt}
use Rattle.z80_alu.specs.Digits.{rld_a, rld_byte, rrd_a, rrd_byte}
use Rattle.z80_decode.specs.Kinds.{bit}
use Rattle.z80_decode.specs.declared.operands.Special.{Special}
use Rattle.z80_decode.specs.declared.operands.Special.TheVariants as specials
use Rattle.z80_draft.specs.Arithmetic.{shift_named, rotation_named}
use Rattle.z80_draft.specs.Draft.{DraftView, draft_byte, draft_word, special_in, digits_done, moved, test_holds}
use Rattle.z80_draft.specs.Outside.{Outside}
use Rattle.z80_draft.specs.Room.{accesses_by, writes_by}
use Rattle.z80_moves.specs.declared.moves.Move.{Move}
use Rattle.z80_moves.specs.declared.moves.Move.TheVariants.{SetByte, SetWord, CopyByte, CopyWord, Displace, ReadByte, WriteByte, ReadWord, WriteWord, Push, Pop, ExchangeStack, ExchangeDeHl, ExchangeAf, ExchangeSets, Arithmetic, Increment, Decrement, CountDown, Shift, RotateA, DecimalAdjust, Complement, Negate, SetCarry, ComplementCarry, AddWord, AddCarryWord, SubtractCarryWord, IncrementWord, DecrementWord, TestBit, SetBit, ResetBit, RotateDigitsLeft, RotateDigitsRight, BlockLoadFlags, BlockCompareFlags, LoadASpecial, SetInterrupts, ClearIff1, RestoreIff1, Halt, OnlyIf}
use Rattle.z80_moves.specs.declared.registers.ByteRegister.{ByteRegister}
use Rattle.z80_moves.specs.declared.registers.ByteRegister.TheVariants as bytes
use Rattle.z80_moves.specs.declared.registers.WordRegister.{WordRegister}
use Rattle.intervals.specs.Domain.{Entry}
use Rattle.intervals.specs.Range.{Within, full, single}
use Rattle.intervals.proofs.Laws.{complement_of_bytes}
use Rattle.loop_bounds.specs.Effect.{Valuation}
use Rattle.loop_bounds.specs.declared.effect.Change.TheVariants.{Unknown}
use Rattle.abs_state.specs.declared.state.AbsState.{AbsState}
use Rattle.abs_draft.specs.AfterMove.{after_move}
use Rattle.abs_draft.specs.Ground.{GroundView}
use Rattle.abs_draft.specs.AbsDraft.{known_byte, known_word}
use Rattle.abs_draft.specs.declared.draft.AbsDraft.{AbsDraft}
use Rattle.abs_laws.specs.Fits.{Fits, IsInRange, ReadsFit}
use Rattle.abs_laws.proofs.Numbers.{wraps_byte, wraps_word, word_sum, word_sum_with_carry, word_difference_with_carry, byte_negation}
use Rattle.abs_laws.proofs.Parts.{byte_small, word_small, byte_within, pair_holds, byte_follows, word_follows, rest_changed}
use Rattle.abs_laws.proofs.Puts.{byte_done, word_done, word_result_done, flags_done}
use Rattle.abs_laws.proofs.Results.{in_full, shift_within, rotate_within, set_within, reset_within, bit_below}
use Rattle.abs_laws.proofs.EachMove.{a_done, af_done, arithmetic_done, changed_done, count_down, counted_up, de_hl_done, decrement_done, decrement_word, displace_done, increment_word, latches_done, read_done, read_word_done, sets_done, write_one, write_two}

complement_small : (n : ℕ) → 255 - n < 256
complement_small n = omega arith

digit_up : (a b : ℕ) → a < 256 → b < 256 → rld_a a b < 256
digit_up a b p q = omega arith

digit_down : (a b : ℕ) → a < 256 → rrd_a a b < 256
digit_down a b p = omega arith

digits_joined : (a b : ℕ) → rld_byte a b < 256
digits_joined a b = omega arith

digits_moved : (a b : ℕ) → b < 256 → rrd_byte a b < 256
digits_moved a b q = omega arith

module _ (g : GroundView) (start : AbsState) (o : Outside) (inline : Bool) (k : AbsDraft) (entry : Entry) (before : Valuation) (d : DraftView) (stack : List ℕ) (reads : ReadsFit g o k.readable) (f : Fits g start k entry before d stack) where
  a_small : d.regs.main.a < 256
  a_small = f.regs.main.a

  special_small : (special : Special) → special_in o special d < 256
  special_small specials.I = f.regs.i
  special_small specials.R = reads.r

  digits : (a byte : ℕ) → a < 256 → byte < 256 → Fits g start (after_move g inline RotateDigitsLeft k) entry before (digits_done a byte o.noise d) stack
  unfolding after_move
  digits a byte h l = byte_done bytes.Operand (full 256) Unknown byte l (in_full byte l) refl (changed_done g start o inline k entry before d stack f bytes.A (full 256) a _ h (in_full a h))

  small : (r : ByteRegister) → draft_byte r d < 256
  small = byte_small g start k entry before d stack f

  within : (r : ByteRegister) → Within (known_byte r k) (draft_byte r d)
  within = byte_within g start k entry before d stack f

  word_within : (w : WordRegister) → Within (known_word w k) (draft_word w d)
  word_within w = (pair_holds g start k entry before d stack f w).word

  pub access_free_fits : (m : Move) → accesses_by m ≡ 0 → IsInRange m → length d.writes + writes_by m ≤ 2 → Fits g start (after_move g inline m k) entry before (moved o m d) stack
  unfolding after_move moved
  access_free_fits (SetByte r n) c i room = byte_done r (single n) Unknown n i (omega arith) refl f
  access_free_fits (SetWord w nn) c i room = word_done w (single nn) Unknown nn i (omega arith) refl f
  access_free_fits (CopyByte to from) c i room = byte_done to _ _ (draft_byte from d) (small from) (within from) (byte_follows g start k entry before d stack f from) f
  access_free_fits (CopyWord to from) c i room = word_done to _ _ (draft_word from d) (word_small g start k entry before d stack f from) (word_within from) (word_follows g start k entry before d stack f from) f
  access_free_fits (Displace w by) c i room = displace_done g start o inline k entry before d stack f w by
  access_free_fits (ReadByte r at) c i room = read_done g start o inline k entry before d stack f reads r at
  access_free_fits (WriteByte at r) c i room = write_one g start o inline k entry before d stack f at r (omega arith)
  access_free_fits (ReadWord w at) c i room = read_word_done g start o inline k entry before d stack f reads w at
  access_free_fits (WriteWord at w) c i room = write_two g start o inline k entry before d stack f at w (omega arith)
  access_free_fits (Push w) c i room = absurd (omega arith)
  access_free_fits (Pop w) c i room = absurd (omega arith)
  access_free_fits (ExchangeStack w) c i room = absurd (omega arith)
  access_free_fits ExchangeDeHl c i room = de_hl_done g start o inline k entry before d stack f
  access_free_fits ExchangeAf c i room = af_done g start o inline k entry before d stack f
  access_free_fits ExchangeSets c i room = sets_done g start o inline k entry before d stack f
  access_free_fits (Arithmetic kind r) c i room = arithmetic_done g start o inline k entry before d stack f kind r
  access_free_fits (Increment r) c i room = counted_up g start o inline k entry before d stack f r
  access_free_fits (Decrement r) c i room = decrement_done g start o inline k entry before d stack f r
  access_free_fits (CountDown r) c i room = count_down g start o inline k entry before d stack f r
  access_free_fits (Shift kind r) c i room =
      changed_done g start o inline k entry before d stack f r _ _ _ (shifted-lt (shift_named kind) _ _ (small r))
      (shift_within kind _ _ _ (small r) (within r))
  access_free_fits (RotateA kind) c i room =
      changed_done g start o inline k entry before d stack f bytes.A _ _ _ (shifted-lt (rotation_named kind) _ _ a_small)
      (rotate_within kind _ _ _ a_small (within bytes.A))
  access_free_fits DecimalAdjust c i room = changed_done g start o inline k entry before d stack f bytes.A (full 256) _ _ (decimal_adjusted-lt _ _) (in_full _ (decimal_adjusted-lt _ _))
  access_free_fits Complement c i room = changed_done g start o inline k entry before d stack f bytes.A _ _ _ (complement_small _) (complement_of_bytes _ _ (within bytes.A))
  access_free_fits Negate c i room = a_done g start o inline k entry before d stack f _ _ _ (wraps_byte _) (byte_negation _ _ (within bytes.A)) (zero_of_difference8 _ _ _ _)
  access_free_fits SetCarry c i room = flags_done None _ tt f
  access_free_fits ComplementCarry c i room = flags_done None _ tt f
  access_free_fits (AddWord to from) c i room = word_result_done to _ _ _ (wraps_word _) (word_sum _ _ _ _ false (word_within to) (word_within from)) f
  access_free_fits (AddCarryWord to from) c i room = word_result_done to _ _ _ (wraps_word _) (word_sum_with_carry _ _ _ _ _ (word_within to) (word_within from)) f
  access_free_fits (SubtractCarryWord to from) c i room = word_result_done to _ _ _ (wraps_word _) (word_difference_with_carry _ _ _ _ _ (word_within to) (word_within from)) f
  access_free_fits (IncrementWord w) c i room = increment_word g start o inline k entry before d stack f w
  access_free_fits (DecrementWord w) c i room = decrement_word g start o inline k entry before d stack f w
  access_free_fits (TestBit b r) c i room = flags_done None _ tt f
  access_free_fits (SetBit b r) c i room =
      byte_done r _ Unknown _ (bit_set-lt (bit b) _ (bit_below b) (small r))
      (set_within b _ _ (small r) (within r)) refl f
  access_free_fits (ResetBit b r) c i room =
      byte_done r _ Unknown _ (bit_reset-lt (bit b) _ (small r))
      (reset_within b _ _ (small r) (within r)) refl f
  access_free_fits RotateDigitsLeft c i room = digits _ _ (digit_up _ _ a_small f.operand_byte) (digits_joined d.regs.main.a d.operand)
  access_free_fits RotateDigitsRight c i room = digits _ _ (digit_down _ d.operand a_small) (digits_moved d.regs.main.a _ f.operand_byte)
  access_free_fits BlockLoadFlags c i room = flags_done None _ tt f
  access_free_fits BlockCompareFlags c i room = flags_done None _ tt f
  access_free_fits (LoadASpecial special) c i room = changed_done g start o inline k entry before d stack f bytes.A (full 256) _ _ (special_small special) (in_full _ (special_small special))
  access_free_fits (SetInterrupts set) c i room = latches_done g start o inline k entry before d stack f set set
  access_free_fits ClearIff1 c i room = latches_done g start o inline k entry before d stack f false d.regs.iff2
  access_free_fits RestoreIff1 c i room = latches_done g start o inline k entry before d stack f d.regs.iff2 d.regs.iff2
  access_free_fits Halt c i room = rest_changed f d.has_read d.taken true d.stack
  access_free_fits (OnlyIf test) c i room = rest_changed f d.has_read (test_holds test d) d.halts d.stack
