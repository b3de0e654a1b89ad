-- The known data writes: moves that make none leave them, and the mark inline matters only to the push of a call.
use Rattle.std.proofs.Common.{◌≡◌, ◌∙◌, Bool, true, false, not, cond, List, [], ◌∷◌, length, refl, ap, arith}
use Rattle.std.specs.Prelude.{nat_lt}
use Rattle.std.proofs.lemmas.Bool.{and_parts}
use Rattle.intervals.specs.Range.{RangeView}
use Rattle.intervals.specs.declared.pair.Pair.{Pair}
use Rattle.loop_bounds.specs.declared.effect.Change.{Change}
use Rattle.z80_decode.specs.declared.kinds.ArithmeticKind.{ArithmeticKind}
use Rattle.z80_decode.specs.declared.kinds.ArithmeticKind.TheVariants as operations
use Rattle.z80_draft.specs.Room.{writes_by, writes_in}
use Rattle.z80_moves.specs.declared.registers.ByteRegister.{ByteRegister}
use Rattle.z80_moves.specs.declared.registers.ByteRegister.TheVariants as bytes
use Rattle.z80_moves.specs.declared.registers.WordRegister.{WordRegister}
use Rattle.z80_moves.specs.declared.registers.WordRegister.TheVariants as words
use Rattle.z80_moves.specs.declared.moves.Move.{Move}
use Rattle.z80_moves.specs.declared.moves.Move.TheVariants.{SetByte, SetWord, CopyByte, CopyWord, Displace, ReadByte, WriteByte, ReadWord, WriteWord, Push, Pop, ExchangeStack, Arithmetic, Increment, Decrement, CountDown, Shift, AddWord, AddCarryWord, SubtractCarryWord, IncrementWord, DecrementWord, SetBit, ResetBit}
use Rattle.abs_draft.specs.AfterMove.{after_move, operated}
use Rattle.abs_draft.specs.Ground.{GroundView}
use Rattle.abs_draft.specs.AbsDraft.{put_known_byte, put_known_pair, push_pair}
use Rattle.abs_draft.specs.Outcomes.{after_moves}
use Rattle.abs_draft.specs.declared.draft.AbsDraft.{AbsDraft}
use Rattle.abs_step.proofs.TameMoves.{are_tame, is_wild, not_wild}

byte_writes : (r : ByteRegister) (range : RangeView) (change : Change) (k : AbsDraft) → (put_known_byte r range change k).writes ≡ k.writes
byte_writes bytes.I range change k = refl
byte_writes bytes.Operand range change k = refl
byte_writes _ range change k = refl

pair_writes : (w : WordRegister) (pair : Pair) (word high low : Change) (k : AbsDraft) → (put_known_pair w pair (record { word = word; high = high; low = low }) k).writes ≡ k.writes
pair_writes words.Pc pair word high low k = refl
pair_writes words.Sp pair word high low k = refl
pair_writes words.Pointer pair word high low k = refl
pair_writes _ pair word high low k = refl

operated_writes : (kind : ArithmeticKind) (r : ByteRegister) (k : AbsDraft) → (operated kind r k).writes ≡ k.writes
operated_writes operations.Compare r k = refl
operated_writes _ r k = refl

either_writes : (b : Bool) (x y k : AbsDraft) → x.writes ≡ k.writes → y.writes ≡ k.writes → (cond b x y).writes ≡ k.writes
either_writes true x y k p q = p
either_writes false x y k p q = q

pushed_writes : (pair : Pair) (word high low : Change) (k : AbsDraft) → (push_pair pair (record { word = word; high = high; low = low }) k).writes ≡ k.writes
pushed_writes pair word high low k = either_writes (nat_lt (length k.state.shape) 64) _ _ k refl refl

pub push_writes : (g : GroundView) (inline : Bool) (w : WordRegister) (k : AbsDraft) → (after_move g inline (Push w) k).writes ≡ k.writes
unfolding after_move
push_writes g inline words.Pc k = either_writes inline _ k k (pushed_writes _ _ _ _ k) refl
push_writes g inline words.Sp k = pushed_writes _ _ _ _ k
push_writes g inline words.Pointer k = pushed_writes _ _ _ _ k
push_writes g inline _ k = pushed_writes _ _ _ _ k

pub move_writes : (g : GroundView) (inline : Bool) (m : Move) (k : AbsDraft) → writes_by m ≡ 0 → (after_move g inline m k).writes ≡ k.writes
unfolding after_move
move_writes g inline (SetByte r n) k h = byte_writes r _ _ k
move_writes g inline (SetWord w nn) k h = pair_writes w _ _ _ _ k
move_writes g inline (CopyByte to from) k h = byte_writes to _ _ k
move_writes g inline (CopyWord to from) k h = pair_writes to _ _ _ _ k
move_writes g inline (Displace w d) k h = pair_writes w _ _ _ _ k
move_writes g inline (ReadByte r at) k h = byte_writes r _ _ k
move_writes g inline (WriteByte at r) k h = absurd (omega arith)
move_writes g inline (ReadWord w at) k h = pair_writes w _ _ _ _ k
move_writes g inline (WriteWord at w) k h = absurd (omega arith)
move_writes g inline (Push w) k h = push_writes g inline w k
move_writes g inline (Pop w) k h = pair_writes w _ _ _ _ k
move_writes g inline (ExchangeStack w) k h = pair_writes w _ _ _ _ k
move_writes g inline (Arithmetic kind r) k h = operated_writes kind r k
move_writes g inline (Increment r) k h = byte_writes r _ _ k
move_writes g inline (Decrement r) k h = byte_writes r _ _ k
move_writes g inline (CountDown r) k h = byte_writes r _ _ k
move_writes g inline (Shift kind r) k h = byte_writes r _ _ k
move_writes g inline (AddWord to w) k h = pair_writes to _ _ _ _ k
move_writes g inline (AddCarryWord to w) k h = pair_writes to _ _ _ _ k
move_writes g inline (SubtractCarryWord to w) k h = pair_writes to _ _ _ _ k
move_writes g inline (IncrementWord w) k h = pair_writes w _ _ _ _ k
move_writes g inline (DecrementWord w) k h = pair_writes w _ _ _ _ k
move_writes g inline (SetBit b r) k h = byte_writes r _ _ k
move_writes g inline (ResetBit b r) k h = byte_writes r _ _ k
move_writes g inline _ k h = refl

pub moves_writes : (g : GroundView) (inline : Bool) (ms : List Move) (k : AbsDraft) → writes_in ms ≡ 0 → (after_moves g inline ms k).writes ≡ k.writes
unfolding after_moves
moves_writes g inline [] k h = refl
moves_writes g inline (m ∷ ms) k h = moves_writes g inline ms (after_move g inline m k) (omega arith) ∙ move_writes g inline m k (omega arith)

-- ---- the mark inline

inline_alike : (g : GroundView) (inline : Bool) (m : Move) (k : AbsDraft) → is_wild m ≡ false → after_move g inline m k ≡ after_move g true m k
unfolding after_move
inline_alike g inline (Push w) k h = absurd (cc)
inline_alike g inline _ k h = refl

pub inline_alikes : (g : GroundView) (inline : Bool) (ms : List Move) (k : AbsDraft) → are_tame ms ≡ true → after_moves g inline ms k ≡ after_moves g true ms k
unfolding after_moves are_tame
inline_alikes g inline [] k h = refl
inline_alikes g inline (m ∷ ms) k h =
    let p = and_parts (not (is_wild m)) (are_tame ms) h in
    ap (after_moves g inline ms) (inline_alike g inline m k (not_wild _ p.0)) ∙ inline_alikes g inline ms (after_move g true m k) p.1
