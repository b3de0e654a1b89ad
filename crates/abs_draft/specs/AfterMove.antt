-- The transfer function of each kind of move (docs/CHECKER.md, "The abstract step").
use Rattle.std.specs.Prelude.{◌-◌, Bool, if◌then◌else◌, length, Some, None}
use Rattle.intervals.specs.Logic.{complement, of_single, with_bit_set, with_bit_reset}
use Rattle.intervals.specs.Pair.{written_bytes}
use Rattle.intervals.specs.Range.{RangeView, single, full}
use Rattle.intervals.specs.Sums.{sum, sum_with_carry, difference_with_carry, increment, decrement, negation, displacement}
use Rattle.loop_bounds.specs.declared.effect.Change.TheVariants.{Unknown}
use Rattle.z80_decode.specs.Kinds.{bit}
use Rattle.z80_decode.specs.declared.kinds.ArithmeticKind.{ArithmeticKind}
use Rattle.z80_decode.specs.declared.kinds.ArithmeticKind.TheVariants as operations
use Rattle.z80_decode.specs.declared.operands.Register8.TheVariants as registers
use Rattle.z80_moves.specs.declared.moves.Move.{Move}
use Rattle.z80_moves.specs.declared.moves.Move.TheVariants.{SetByte, SetWord, CopyByte, CopyWord, Displace, ReadByte, WriteByte, ReadWord, WriteWord, Push, Pop, ExchangeStack, ExchangeDeHl, ExchangeAf, ExchangeSets, Arithmetic, Increment, Decrement, CountDown, Shift, RotateA, DecimalAdjust, Complement, Negate, SetCarry, ComplementCarry, AddWord, AddCarryWord, SubtractCarryWord, IncrementWord, DecrementWord, TestBit, SetBit, ResetBit, RotateDigitsLeft, RotateDigitsRight, BlockLoadFlags, BlockCompareFlags, LoadASpecial, SetInterrupts, ClearIff1, RestoreIff1, Halt, OnlyIf}
use Rattle.z80_moves.specs.declared.registers.ByteRegister.{ByteRegister}
use Rattle.z80_moves.specs.declared.registers.ByteRegister.TheVariants as bytes
use Rattle.z80_moves.specs.declared.registers.WordRegister.{WordRegister}
use Rattle.z80_moves.specs.declared.registers.WordRegister.TheVariants as words
use Rattle.abs_state.specs.Registers.{exchange_de_hl, exchange_af, exchange_sets}
use Rattle.abs_state.specs.declared.fact.FlagFact.TheVariants.{Zero}
use Rattle.abs_draft.specs.Ground.{GroundView, read_range}
use Rattle.abs_draft.specs.AbsDraft.{no_parts, known_parts_of, slot_parts, byte_change, word_change, raised_change, lowered, known_byte, known_word, known_pair, put_known_byte, put_known_pair, put_known_word, put_known_flags, push_pair, put_last, pop_pair, last_slot, write_byte}
use Rattle.abs_draft.specs.Results.{arithmetic_range, shift_range, rotate_range, zero_fact, compare_fact}
use Rattle.abs_draft.specs.declared.draft.AbsDraft.{AbsDraft}

-- the word register of an exchange or a pop gets what is known of the last slot
abbrev pub take_slot : WordRegister → AbsDraft → AbsDraft
take_slot w k = put_known_pair w (last_slot k.state.shape).pair (slot_parts (length k.state.shape - 1) k.effect) k

-- EX (SP): register and slot swap
abbrev pub exchanged_stack : WordRegister → AbsDraft → AbsDraft
exchanged_stack w k = put_last (known_pair w k) (known_parts_of w k.effect) (take_slot w k)

-- EX DE,HL
abbrev pub exchanged_de_hl : AbsDraft → AbsDraft
exchanged_de_hl k = record k {
  state = exchange_de_hl k.state;
  effect = record k.effect { d = k.effect.h; e = k.effect.l; de = k.effect.hl; h = k.effect.d; l = k.effect.e; hl = k.effect.de };
}

-- EX AF,AF': the alternate set has no variables
abbrev pub exchanged_af : AbsDraft → AbsDraft
exchanged_af k = record k { state = exchange_af k.state; effect = record k.effect { a = Unknown } }

-- EXX
abbrev pub exchanged_sets : AbsDraft → AbsDraft
exchanged_sets k = record k {
  state = exchange_sets k.state;
  effect = record k.effect { b = Unknown; c = Unknown; bc = Unknown; d = Unknown; e = Unknown; de = Unknown; h = Unknown; l = Unknown; hl = Unknown };
}

-- An operation on A and a byte. CP leaves A.
abbrev pub operated : ArithmeticKind → ByteRegister → AbsDraft → AbsDraft
operated operations.Compare r k = put_known_flags (compare_fact (known_byte r k)) k
operated kind r k = put_known_flags (Some (Zero registers.A)) (put_known_byte bytes.A (arithmetic_range kind r k) Unknown k)

-- a byte is known only by its range; the flags change without a fact
abbrev pub changed_byte : ByteRegister → RangeView → AbsDraft → AbsDraft
changed_byte r range k = put_known_flags None (put_known_byte r range Unknown k)

-- a read of two bytes
abbrev pub known_read_word : GroundView → WordRegister → RangeView → AbsDraft → AbsDraft
known_read_word g w at k = put_known_pair w (written_bytes (read_range g k.readable (increment 65536 at)) (read_range g k.readable at)) no_parts k

-- a write of two bytes, the low one first
abbrev pub write_word : GroundView → RangeView → WordRegister → AbsDraft → AbsDraft
write_word g at w k = write_byte g (increment 65536 at) (known_pair w k).high (write_byte g at (known_pair w k).low k)

-- The push of an inline call puts the return address on the shape. That of any other call leaves the stack as it was.
abbrev pub pushed_known : Bool → WordRegister → AbsDraft → AbsDraft
pushed_known inline words.Pc k = if inline then push_pair (known_pair words.Pc k) no_parts k else k
pushed_known inline w k = push_pair (known_pair w k) (known_parts_of w k.effect) k

-- INC and DEC of a byte; the counts of DJNZ and of block instructions; INC and DEC of a word
abbrev pub incremented : ByteRegister → AbsDraft → AbsDraft
incremented r k = put_known_flags (zero_fact r) (put_known_byte r (increment 256 (known_byte r k)) (raised_change (known_byte r k) 255 (byte_change r k.effect)) k)

abbrev pub counted_down : ByteRegister → AbsDraft → AbsDraft
counted_down r k = put_known_byte r (decrement 256 (known_byte r k)) (lowered (known_byte r k) (byte_change r k.effect)) k

abbrev pub decremented : ByteRegister → AbsDraft → AbsDraft
decremented r k = put_known_flags (zero_fact r) (counted_down r k)

abbrev pub incremented_word : WordRegister → AbsDraft → AbsDraft
incremented_word w k = put_known_word w (increment 65536 (known_word w k)) (raised_change (known_word w k) 65535 (word_change w k.effect)) k

abbrev pub decremented_word : WordRegister → AbsDraft → AbsDraft
decremented_word w k = put_known_word w (decrement 65536 (known_word w k)) (lowered (known_word w k) (word_change w k.effect)) k

-- what is known after a move
unfoldable pub after_move : GroundView → Bool → Move → AbsDraft → AbsDraft
after_move g inline (SetByte r n) k = put_known_byte r (single n) Unknown k
after_move g inline (SetWord w nn) k = put_known_word w (single nn) Unknown k
after_move g inline (CopyByte to from) k = put_known_byte to (known_byte from k) (byte_change from k.effect) k
after_move g inline (CopyWord to from) k = put_known_word to (known_word from k) (word_change from k.effect) k
after_move g inline (Displace w by) k = put_known_word w (displacement (known_word w k) by) Unknown k
after_move g inline (ReadByte r at) k = put_known_byte r (read_range g k.readable (known_word at k)) Unknown k
after_move g inline (WriteByte at r) k = write_byte g (known_word at k) (known_byte r k) k
after_move g inline (ReadWord w at) k = known_read_word g w (known_word at k) k
after_move g inline (WriteWord at w) k = write_word g (known_word at k) w k
after_move g inline (Push w) k = pushed_known inline w k
after_move g inline (Pop w) k = pop_pair (take_slot w k)
after_move g inline (ExchangeStack w) k = exchanged_stack w k
after_move g inline ExchangeDeHl k = exchanged_de_hl k
after_move g inline ExchangeAf k = exchanged_af k
after_move g inline ExchangeSets k = exchanged_sets k
after_move g inline (Arithmetic kind r) k = operated kind r k
after_move g inline (Increment r) k = incremented r k
after_move g inline (Decrement r) k = decremented r k
after_move g inline (CountDown r) k = counted_down r k
after_move g inline (Shift kind r) k = changed_byte r (shift_range kind (known_byte r k)) k
after_move g inline (RotateA kind) k = changed_byte bytes.A (rotate_range kind (known_byte bytes.A k)) k
after_move g inline DecimalAdjust k = changed_byte bytes.A (full 256) k
after_move g inline Complement k = changed_byte bytes.A (complement (known_byte bytes.A k)) k
after_move g inline Negate k = put_known_flags (Some (Zero registers.A)) (put_known_byte bytes.A (negation (known_byte bytes.A k)) Unknown k)
after_move g inline SetCarry k = put_known_flags None k
after_move g inline ComplementCarry k = put_known_flags None k
after_move g inline (AddWord to from) k = put_known_flags None (put_known_word to (sum 65536 (known_word to k) (known_word from k)) Unknown k)
after_move g inline (AddCarryWord to from) k = put_known_flags None (put_known_word to (sum_with_carry 65536 (known_word to k) (known_word from k)) Unknown k)
after_move g inline (SubtractCarryWord to from) k = put_known_flags None (put_known_word to (difference_with_carry 65536 (known_word to k) (known_word from k)) Unknown k)
after_move g inline (IncrementWord w) k = incremented_word w k
after_move g inline (DecrementWord w) k = decremented_word w k
after_move g inline (TestBit b r) k = put_known_flags None k
after_move g inline (SetBit b r) k = put_known_byte r (of_single (with_bit_set (bit b)) (known_byte r k)) Unknown k
after_move g inline (ResetBit b r) k = put_known_byte r (of_single (with_bit_reset (bit b)) (known_byte r k)) Unknown k
after_move g inline RotateDigitsLeft k = put_known_byte bytes.Operand (full 256) Unknown (changed_byte bytes.A (full 256) k)
after_move g inline RotateDigitsRight k = put_known_byte bytes.Operand (full 256) Unknown (changed_byte bytes.A (full 256) k)
after_move g inline BlockLoadFlags k = put_known_flags None k
after_move g inline BlockCompareFlags k = put_known_flags None k
after_move g inline (LoadASpecial special) k = changed_byte bytes.A (full 256) k
after_move g inline (SetInterrupts set) k = k
after_move g inline ClearIff1 k = k
after_move g inline RestoreIff1 k = k
after_move g inline Halt k = k
after_move g inline (OnlyIf test) k = k
