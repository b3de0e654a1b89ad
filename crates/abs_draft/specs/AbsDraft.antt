-- The abstract draft: what is known between the moves of an instruction, with reads and writes of its registers.
use Rattle.std.specs.Prelude.{ℕ, ◌-◌, nat_lt, if◌then◌else◌, List, [], ◌∷◌, ◌++◌, length, take, get_or, slice_set, Option, Some, None}
use Rattle.intervals.specs.Pair.{full_pair, written_word}
use Rattle.intervals.specs.Range.{RangeView, full}
use Rattle.intervals.specs.declared.pair.Pair.{Pair}
use Rattle.intervals.specs.declared.reg_pair.RegPair.{RegPair}
use Rattle.intervals.specs.declared.reg_pair.RegPair.TheVariants as pairs
use Rattle.loop_bounds.specs.Effect.{slot_change}
use Rattle.loop_bounds.specs.declared.effect.Change.{Change}
use Rattle.loop_bounds.specs.declared.effect.Change.TheVariants.{Old, Raised, Lowered, Unknown}
use Rattle.loop_bounds.specs.declared.effect.Effect.{Effect}
use Rattle.loop_bounds.specs.declared.variable.Part.TheVariants.{Word, High, Low}
use Rattle.stack_shape.specs.declared.slot.Slot.{Slot}
use Rattle.z80_decode.specs.declared.operands.Register8.{Register8}
use Rattle.z80_decode.specs.declared.operands.Register8.TheVariants as registers
use Rattle.z80_moves.specs.declared.registers.ByteRegister.{ByteRegister}
use Rattle.z80_moves.specs.declared.registers.ByteRegister.TheVariants as bytes
use Rattle.z80_moves.specs.declared.registers.WordRegister.{WordRegister}
use Rattle.z80_moves.specs.declared.registers.WordRegister.TheVariants as words
use Rattle.abs_state.specs.Registers.{put_byte as state_byte, put_pair as state_pair, put_flags as state_flags}
use Rattle.abs_state.specs.Variables.{full_slot}
use Rattle.abs_state.specs.declared.fact.FlagFact.{FlagFact}
use Rattle.abs_state.specs.declared.state.AbsState.{AbsState}
use Rattle.abs_draft.specs.Ground.{GroundView, may_enable, mode_after, armed_after}
use Rattle.abs_draft.specs.declared.draft.AbsDraft.{AbsDraft}
use Rattle.abs_draft.specs.declared.draft.WordChanges.{WordChanges}
use Rattle.abs_draft.specs.declared.data_write.DataWrite.{DataWrite}

-- ---- changes of variables

-- The change of a byte register. F, I and the byte in work have no variable.
abbrev pub byte_change : ByteRegister → Effect → Change
byte_change bytes.A e = e.a
byte_change bytes.F e = Unknown
byte_change bytes.B e = e.b
byte_change bytes.C e = e.c
byte_change bytes.D e = e.d
byte_change bytes.E e = e.e
byte_change bytes.H e = e.h
byte_change bytes.L e = e.l
byte_change bytes.I e = Unknown
byte_change bytes.Operand e = Unknown

-- the change of a word register
abbrev pub word_change : WordRegister → Effect → Change
word_change words.Bc e = e.bc
word_change words.De e = e.de
word_change words.Hl e = e.hl
word_change words.Ix e = e.ix
word_change words.Iy e = e.iy
word_change _ e = Unknown

-- nothing is known of a word and its bytes
abbrev pub no_parts : WordChanges
no_parts = record { word = Unknown; high = Unknown; low = Unknown }

-- The changes of a word register and of its bytes. AF has no variable of its own, and IX and IY have none for bytes.
abbrev pub known_parts_of : WordRegister → Effect → WordChanges
known_parts_of words.Af e = record { word = Unknown; high = e.a; low = Unknown }
known_parts_of words.Bc e = record { word = e.bc; high = e.b; low = e.c }
known_parts_of words.De e = record { word = e.de; high = e.d; low = e.e }
known_parts_of words.Hl e = record { word = e.hl; high = e.h; low = e.l }
known_parts_of words.Ix e = record { word = e.ix; high = Unknown; low = Unknown }
known_parts_of words.Iy e = record { word = e.iy; high = Unknown; low = Unknown }
known_parts_of words.Sp e = no_parts
known_parts_of words.Pc e = no_parts
known_parts_of words.Pointer e = no_parts

-- the effect with the changes of a word register and of its bytes
abbrev pub with_parts : WordRegister → WordChanges → Effect → Effect
with_parts words.Af p e = record e { a = p.high }
with_parts words.Bc p e = record e { bc = p.word; b = p.high; c = p.low }
with_parts words.De p e = record e { de = p.word; d = p.high; e = p.low }
with_parts words.Hl p e = record e { hl = p.word; h = p.high; l = p.low }
with_parts words.Ix p e = record e { ix = p.word }
with_parts words.Iy p e = record e { iy = p.word }
with_parts words.Sp p e = e
with_parts words.Pc p e = e
with_parts words.Pointer p e = e

-- The effect with the change of a byte register. The word of its pair becomes unknown.
abbrev pub with_byte_change : Register8 → Change → Effect → Effect
with_byte_change registers.A change e = record e { a = change }
with_byte_change registers.B change e = record e { b = change; bc = Unknown }
with_byte_change registers.C change e = record e { c = change; bc = Unknown }
with_byte_change registers.D change e = record e { d = change; de = Unknown }
with_byte_change registers.E change e = record e { e = change; de = Unknown }
with_byte_change registers.H change e = record e { h = change; hl = Unknown }
with_byte_change registers.L change e = record e { l = change; hl = Unknown }

-- the changes of a slot
abbrev pub slot_parts : ℕ → Effect → WordChanges
slot_parts number e = record { word = slot_change e.slot number Word; high = slot_change e.slot number High; low = slot_change e.slot number Low }

-- the effect with a written slot
abbrev pub with_slot_parts : ℕ → WordChanges → Effect → Effect
with_slot_parts number p e = record e { slot = Some (record { number = number; word = p.word; high = p.high; low = p.low }) }

-- one more or one less than a variable; unknown if it may wrap
abbrev pub raised_change : RangeView → ℕ → Change → Change
raised_change range top (Old v) = if nat_lt range.high top then Raised v else Unknown
raised_change range top _ = Unknown

abbrev pub lowered : RangeView → Change → Change
lowered range (Old v) = if nat_lt 0 range.low then Lowered v else Unknown
lowered range _ = Unknown

-- ---- reads of registers

abbrev pub known_byte : ByteRegister → AbsDraft → RangeView
known_byte bytes.A k = k.state.pairs.af.high
known_byte bytes.F k = k.state.pairs.af.low
known_byte bytes.B k = k.state.pairs.bc.high
known_byte bytes.C k = k.state.pairs.bc.low
known_byte bytes.D k = k.state.pairs.de.high
known_byte bytes.E k = k.state.pairs.de.low
known_byte bytes.H k = k.state.pairs.hl.high
known_byte bytes.L k = k.state.pairs.hl.low
known_byte bytes.I k = full 256
known_byte bytes.Operand k = k.operand

-- what is known of a word register; SP is full
abbrev pub known_pair : WordRegister → AbsDraft → Pair
known_pair words.Af k = k.state.pairs.af
known_pair words.Bc k = k.state.pairs.bc
known_pair words.De k = k.state.pairs.de
known_pair words.Hl k = k.state.pairs.hl
known_pair words.Ix k = k.state.pairs.ix
known_pair words.Iy k = k.state.pairs.iy
known_pair words.Sp k = full_pair
known_pair words.Pc k = written_word k.pc
known_pair words.Pointer k = written_word k.pointer

abbrev pub known_word : WordRegister → AbsDraft → RangeView
known_word w k = (known_pair w k).word

-- ---- writes of registers

abbrev pub set_byte : Register8 → RangeView → Change → AbsDraft → AbsDraft
set_byte r range change k = record k { state = state_byte r range k.state; effect = with_byte_change r change k.effect }

-- the flags change: F is full, and the fact is the given one
abbrev pub put_known_flags : Option FlagFact → AbsDraft → AbsDraft
put_known_flags fact k = record k { state = state_flags fact k.state }

-- A byte register is written. Nothing is known of I.
abbrev pub put_known_byte : ByteRegister → RangeView → Change → AbsDraft → AbsDraft
put_known_byte bytes.A range change k = set_byte registers.A range change k
put_known_byte bytes.F range change k = put_known_flags None k
put_known_byte bytes.B range change k = set_byte registers.B range change k
put_known_byte bytes.C range change k = set_byte registers.C range change k
put_known_byte bytes.D range change k = set_byte registers.D range change k
put_known_byte bytes.E range change k = set_byte registers.E range change k
put_known_byte bytes.H range change k = set_byte registers.H range change k
put_known_byte bytes.L range change k = set_byte registers.L range change k
put_known_byte bytes.I range change k = k
put_known_byte bytes.Operand range change k = record k { operand = range }

-- a pair is replaced, with the changes of its word and bytes
abbrev pub set_pair : RegPair → WordRegister → Pair → WordChanges → AbsDraft → AbsDraft
set_pair r w pair parts k = record k { state = state_pair r pair k.state; effect = with_parts w parts k.effect }

-- A word register is replaced. Nothing is known of SP.
abbrev pub put_known_pair : WordRegister → Pair → WordChanges → AbsDraft → AbsDraft
put_known_pair words.Af pair parts k = set_pair pairs.Af words.Af pair parts k
put_known_pair words.Bc pair parts k = set_pair pairs.Bc words.Bc pair parts k
put_known_pair words.De pair parts k = set_pair pairs.De words.De pair parts k
put_known_pair words.Hl pair parts k = set_pair pairs.Hl words.Hl pair parts k
put_known_pair words.Ix pair parts k = set_pair pairs.Ix words.Ix pair parts k
put_known_pair words.Iy pair parts k = set_pair pairs.Iy words.Iy pair parts k
put_known_pair words.Sp pair parts k = k
put_known_pair words.Pc pair parts k = record k { pc = pair.word }
put_known_pair words.Pointer pair parts k = record k { pointer = pair.word }

-- a word is written, with the change of the word; its bytes are unknown
abbrev pub put_known_word : WordRegister → RangeView → Change → AbsDraft → AbsDraft
put_known_word w range change k = put_known_pair w (written_word range) (record no_parts { word = change }) k

-- ---- the stack, first pushed first

abbrev pub without_last : List Slot → List Slot
without_last slots = take (length slots - 1) slots

abbrev pub last_slot : List Slot → Slot
last_slot slots = get_or slots (length slots - 1) full_slot

abbrev pub with_shape : List Slot → AbsDraft → AbsDraft
with_shape slots k = record k { state = record k.state { shape = slots } }

-- the last slot is replaced, if there is one
abbrev pub put_last : Pair → WordChanges → AbsDraft → AbsDraft
put_last pair parts k = record (with_shape (slice_set k.state.shape (length k.state.shape - 1) (record { pair = pair })) k) {
  effect = with_slot_parts (length k.state.shape - 1) parts k.effect;
}

-- a pair is pushed, if there is room for it
abbrev pub push_pair : Pair → WordChanges → AbsDraft → AbsDraft
push_pair pair parts k =
    if nat_lt (length k.state.shape) 64 then record (with_shape (k.state.shape ++ record { pair = pair } ∷ []) k) {
      effect = with_slot_parts (length k.state.shape) parts k.effect;
    }
    else k

-- the last slot is popped
abbrev pub pop_pair : AbsDraft → AbsDraft
pop_pair k = with_shape (without_last k.state.shape) k

-- ---- data writes

abbrev pub written_state : GroundView → DataWrite → AbsState → AbsState
written_state g w s = record s { mode = mode_after (may_enable g.map w) s.mode; armed = armed_after g w s.armed }

-- one more write; no instruction makes more than two
abbrev pub one_more_write : List DataWrite → DataWrite → List DataWrite
one_more_write ws w = if nat_lt (length ws) 2 then ws ++ w ∷ [] else ws

-- a byte is written
abbrev pub write_data : GroundView → DataWrite → AbsDraft → AbsDraft
write_data g w k = record k { state = written_state g w k.state; writes = record { items = one_more_write k.writes.items w } }

abbrev pub write_byte : GroundView → RangeView → RangeView → AbsDraft → AbsDraft
write_byte g at byte k = write_data g (record { at = at; byte = byte }) k
