-- Tame moves: they make no stack access, report no outcome, do not halt and do not write I. Where the program counter
-- has one known address, it has one after them.
use Rattle.std.proofs.Common.{◌≡◌, ◌∙◌, ℕ, Bool, true, false, not, ◌&&◌, List, [], ◌∷◌, None, refl, sym, ap, subst, arith}
use Rattle.std.specs.Prelude.{◌==◌, ◌/◌, nat_lt, length}
use Rattle.std.proofs.lemmas.Grind.{common_steps}
use Rattle.std.proofs.Math.Bool.{cond}
use Rattle.std.proofs.lemmas.Bool.{and_parts}
use Rattle.intervals.specs.Range.{RangeView}
use Rattle.intervals.specs.Sums.{displacement, window}
use Rattle.intervals.specs.declared.pair.Pair.{Pair}
use Rattle.loop_bounds.specs.declared.effect.Change.{Change}
use Rattle.z80_decode.specs.declared.kinds.ArithmeticKind.{ArithmeticKind}
use Rattle.z80_decode.specs.declared.kinds.ArithmeticKind.TheVariants as operations
use Rattle.z80_draft.specs.Draft.{DraftView, drafted, goes_on, moved, with_byte, with_word}
use Rattle.z80_draft.specs.Outside.{Outside}
use Rattle.z80_draft.specs.Room.{accesses_by, accesses_in}
use Rattle.z80_moves.specs.declared.registers.ByteRegister.{ByteRegister}
use Rattle.z80_moves.specs.declared.registers.ByteRegister.TheVariants as bytes
use Rattle.z80_moves.specs.declared.registers.WordRegister.{WordRegister}
use Rattle.z80_moves.specs.declared.registers.WordRegister.TheVariants as words
use Rattle.z80_moves.specs.declared.moves.Move.{Move}
use Rattle.z80_moves.specs.declared.moves.Move.TheVariants.{SetByte, SetWord, CopyByte, CopyWord, Displace, ReadByte, ReadWord, Push, Pop, ExchangeStack, Arithmetic, Increment, Decrement, CountDown, Shift, AddWord, AddCarryWord, SubtractCarryWord, IncrementWord, DecrementWord, SetBit, ResetBit, Halt, OnlyIf}
use Rattle.abs_draft.specs.AfterMove.{after_move, operated}
use Rattle.abs_draft.specs.Ground.{GroundView}
use Rattle.abs_draft.specs.AbsDraft.{push_pair, put_known_byte, put_known_pair}
use Rattle.abs_draft.specs.Outcomes.{after_moves, before_test, behind_test, test_in, test_of}
use Rattle.abs_draft.specs.declared.draft.AbsDraft.{AbsDraft}

abbrev pub is_i : ByteRegister → Bool
is_i bytes.I = true
is_i _ = false

abbrev pub is_pc : WordRegister → Bool
is_pc words.Pc = true
is_pc _ = false

-- whether a move is not tame
abbrev pub is_wild : Move → Bool
is_wild (SetByte r n) = is_i r
is_wild (CopyByte to from) = is_i to
is_wild (ReadByte r at) = is_i r
is_wild (Increment r) = is_i r
is_wild (Decrement r) = is_i r
is_wild (CountDown r) = is_i r
is_wild (Shift kind r) = is_i r
is_wild (SetBit b r) = is_i r
is_wild (ResetBit b r) = is_i r
is_wild (CopyWord to from) = is_pc to
is_wild (ReadWord w at) = is_pc w
is_wild (AddWord to w) = is_pc to
is_wild (AddCarryWord to w) = is_pc to
is_wild (SubtractCarryWord to w) = is_pc to
is_wild (IncrementWord w) = is_pc w
is_wild (DecrementWord w) = is_pc w
is_wild (Push w) = true
is_wild (Pop w) = true
is_wild (ExchangeStack w) = true
is_wild Halt = true
is_wild (OnlyIf test) = true
is_wild _ = false

unfoldable pub are_tame : List Move → Bool
are_tame [] = true
are_tame (m ∷ ms) = not (is_wild m) && are_tame ms

pub not_wild : (b : Bool) → not b ≡ true → b ≡ false
not_wild false h = refl
not_wild true h = absurd (cc)

-- ---- the rest of a draft

pub record Rest (old new : DraftView) : Type 0 where
  pub taken : new.taken ≡ old.taken
  pub halts : new.halts ≡ old.halts
  pub i : new.regs.i ≡ old.regs.i

byte_rest : (r : ByteRegister) (n : ℕ) (e : DraftView) → is_i r ≡ false → Rest e (with_byte r n e)
byte_rest bytes.I n e h = absurd (cc)
byte_rest bytes.Operand n e h = record { taken = refl; halts = refl; i = refl }
byte_rest _ n e h = record { taken = refl; halts = refl; i = refl }

word_rest : (w : WordRegister) (n : ℕ) (e : DraftView) → Rest e (with_word w n e)
word_rest words.Pointer n e = record { taken = refl; halts = refl; i = refl }
word_rest _ n e = record { taken = refl; halts = refl; i = refl }

pub move_rest : (o : Outside) (m : Move) (e : DraftView) → is_wild m ≡ false → Rest e (moved o m e)
unfolding moved
move_rest o (SetByte r n) e h = byte_rest r _ e h
move_rest o (SetWord w nn) e h = word_rest w _ e
move_rest o (CopyByte to from) e h = byte_rest to _ e h
move_rest o (CopyWord to from) e h = word_rest to _ e
move_rest o (Displace w d) e h = word_rest w _ e
move_rest o (ReadByte r at) e h = let k = byte_rest r _ e h in record { taken = k.taken; halts = k.halts; i = k.i }
move_rest o (ReadWord w at) e h = let k = word_rest w _ e in record { taken = k.taken; halts = k.halts; i = k.i }
move_rest o (Push w) e h = absurd (cc)
move_rest o (Pop w) e h = absurd (cc)
move_rest o (ExchangeStack w) e h = absurd (cc)
move_rest o (Increment r) e h = let k = byte_rest r _ e h in record { taken = k.taken; halts = k.halts; i = k.i }
move_rest o (Decrement r) e h = let k = byte_rest r _ e h in record { taken = k.taken; halts = k.halts; i = k.i }
move_rest o (CountDown r) e h = byte_rest r _ e h
move_rest o (Shift kind r) e h = let k = byte_rest r _ e h in record { taken = k.taken; halts = k.halts; i = k.i }
move_rest o (AddWord to w) e h = let k = word_rest to _ e in record { taken = k.taken; halts = k.halts; i = k.i }
move_rest o (AddCarryWord to w) e h = let k = word_rest to _ e in record { taken = k.taken; halts = k.halts; i = k.i }
move_rest o (SubtractCarryWord to w) e h = let k = word_rest to _ e in record { taken = k.taken; halts = k.halts; i = k.i }
move_rest o (IncrementWord w) e h = word_rest w _ e
move_rest o (DecrementWord w) e h = word_rest w _ e
move_rest o (SetBit b r) e h = byte_rest r _ e h
move_rest o (ResetBit b r) e h = byte_rest r _ e h
move_rest o Halt e h = absurd (cc)
move_rest o (OnlyIf test) e h = absurd (cc)
move_rest o _ e h = record { taken = refl; halts = refl; i = refl }

-- ---- where the program counter goes

-- only one address is possible
abbrev pub IsOne : RangeView → Type 0
IsOne range = range.low ≡ range.high

byte_pc : (r : ByteRegister) (range : RangeView) (change : Change) (k : AbsDraft) → (put_known_byte r range change k).pc ≡ k.pc
byte_pc bytes.I range change k = refl
byte_pc bytes.Operand range change k = refl
byte_pc _ range change k = refl

pair_pc : (w : WordRegister) (pair : Pair) (word high low : Change) (k : AbsDraft) → is_pc w ≡ false → (put_known_pair w pair (record { word = word; high = high; low = low }) k).pc ≡ k.pc
pair_pc words.Pc pair word high low k h = absurd (cc)
pair_pc words.Sp pair word high low k h = refl
pair_pc words.Pointer pair word high low k h = refl
pair_pc _ pair word high low k h = refl

operated_pc : (kind : ArithmeticKind) (r : ByteRegister) (k : AbsDraft) → (operated kind r k).pc ≡ k.pc
operated_pc operations.Compare r k = refl
operated_pc _ r k = refl

still : (new old : RangeView) → new ≡ old → IsOne old → IsOne new
still new old e h = subst IsOne (sym e) h

window_one : (n : ℕ) → IsOne (window 65536 n n)
window_one n = let e : (n / 65536 == n / 65536) ≡ true = grind (arith, common_steps) in rw e refl

displaced_one : (range : RangeView) (d : ℕ) → IsOne range → IsOne (displacement range d)
displaced_one range d h = rw h (window_one _)

set_one : (w : WordRegister) (pair : Pair) (word high low : Change) (k : AbsDraft) → IsOne pair.word → IsOne k.pc → IsOne (put_known_pair w pair (record { word = word; high = high; low = low }) k).pc
set_one words.Pc pair word high low k one h = one
set_one words.Sp pair word high low k one h = h
set_one words.Pointer pair word high low k one h = h
set_one _ pair word high low k one h = h

displace_pc : (w : WordRegister) (g : GroundView) (inline : Bool) (d : ℕ) (k : AbsDraft) → IsOne k.pc → IsOne (after_move g inline (Displace w d) k).pc
unfolding after_move
displace_pc words.Pc g inline d k h = displaced_one k.pc d h
displace_pc words.Sp g inline d k h = h
displace_pc words.Pointer g inline d k h = h
displace_pc _ g inline d k h = h

pub move_pc : (g : GroundView) (inline : Bool) (m : Move) (k : AbsDraft) → is_wild m ≡ false → IsOne k.pc → IsOne (after_move g inline m k).pc
unfolding after_move
move_pc g inline (SetByte r n) k h one = still _ _ (byte_pc r _ _ k) one
move_pc g inline (SetWord w nn) k h one = set_one w _ _ _ _ k refl one
move_pc g inline (CopyByte to from) k h one = still _ _ (byte_pc to _ _ k) one
move_pc g inline (CopyWord to from) k h one = still _ _ (pair_pc to _ _ _ _ k h) one
move_pc g inline (Displace w d) k h one = displace_pc w g inline d k one
move_pc g inline (ReadByte r at) k h one = still _ _ (byte_pc r _ _ k) one
move_pc g inline (ReadWord w at) k h one = still _ _ (pair_pc w _ _ _ _ k h) one
move_pc g inline (Push w) k h one = absurd (cc)
move_pc g inline (Pop w) k h one = absurd (cc)
move_pc g inline (ExchangeStack w) k h one = absurd (cc)
move_pc g inline (Arithmetic kind r) k h one = still _ _ (operated_pc kind r k) one
move_pc g inline (Increment r) k h one = still _ _ (byte_pc r _ _ k) one
move_pc g inline (Decrement r) k h one = still _ _ (byte_pc r _ _ k) one
move_pc g inline (CountDown r) k h one = still _ _ (byte_pc r _ _ k) one
move_pc g inline (Shift kind r) k h one = still _ _ (byte_pc r _ _ k) one
move_pc g inline (AddWord to w) k h one = still _ _ (pair_pc to _ _ _ _ k h) one
move_pc g inline (AddCarryWord to w) k h one = still _ _ (pair_pc to _ _ _ _ k h) one
move_pc g inline (SubtractCarryWord to w) k h one = still _ _ (pair_pc to _ _ _ _ k h) one
move_pc g inline (IncrementWord w) k h one = still _ _ (pair_pc w _ _ _ _ k h) one
move_pc g inline (DecrementWord w) k h one = still _ _ (pair_pc w _ _ _ _ k h) one
move_pc g inline (SetBit b r) k h one = still _ _ (byte_pc r _ _ k) one
move_pc g inline (ResetBit b r) k h one = still _ _ (byte_pc r _ _ k) one
move_pc g inline Halt k h one = absurd (cc)
move_pc g inline (OnlyIf test) k h one = absurd (cc)
move_pc g inline _ k h one = one

-- a push leaves the program counter
either_pc : (b : Bool) (x y k : AbsDraft) → x.pc ≡ k.pc → y.pc ≡ k.pc → (cond b x y).pc ≡ k.pc
either_pc true x y k p q = p
either_pc false x y k p q = q

pushed_pc : (pair : Pair) (word high low : Change) (k : AbsDraft) → (push_pair pair (record { word = word; high = high; low = low }) k).pc ≡ k.pc
pushed_pc pair word high low k = either_pc (nat_lt (length k.state.shape) 64) _ _ k refl refl

pub push_pc : (g : GroundView) (inline : Bool) (w : WordRegister) (k : AbsDraft) → (after_move g inline (Push w) k).pc ≡ k.pc
unfolding after_move
push_pc g inline words.Pc k = either_pc inline _ k k (pushed_pc _ _ _ _ k) refl
push_pc g inline words.Sp k = pushed_pc _ _ _ _ k
push_pc g inline words.Pointer k = pushed_pc _ _ _ _ k
push_pc g inline _ k = pushed_pc _ _ _ _ k

-- an exchange, and a pop into another register, leave it
pub pop_pc : (g : GroundView) (inline : Bool) (w : WordRegister) (k : AbsDraft) → is_pc w ≡ false → (after_move g inline (Pop w) k).pc ≡ k.pc
unfolding after_move
pop_pc g inline w k h = pair_pc w _ _ _ _ k h

pub exchange_pc : (g : GroundView) (inline : Bool) (w : WordRegister) (k : AbsDraft) → is_pc w ≡ false → (after_move g inline (ExchangeStack w) k).pc ≡ k.pc
unfolding after_move
exchange_pc g inline w k h = pair_pc w _ _ _ _ k h

-- ---- lists of tame moves

-- a tame move is no test and makes no stack access
test_less : (m : Move) → is_wild m ≡ false → test_in m ≡ None
test_less (OnlyIf test) h = absurd (cc)
test_less _ h = refl

access_less : (m : Move) → is_wild m ≡ false → accesses_by m ≡ 0
access_less (Push w) h = absurd (cc)
access_less (Pop w) h = absurd (cc)
access_less (ExchangeStack w) h = absurd (cc)
access_less _ h = refl

goes : (m : Move) (e : DraftView) → is_wild m ≡ false → goes_on m e ≡ true
goes (OnlyIf test) e h = absurd (cc)
goes _ e h = refl

pub record Tame (ms : List Move) : Type 0 where
  pub accesses : accesses_in ms ≡ 0
  pub test : test_of ms ≡ None
  pub before : before_test ms ≡ ms
  pub behind : behind_test ms ≡ []

first : (m : Move) (ms : List Move) → are_tame (m ∷ ms) ≡ true → (is_wild m ≡ false) × (are_tame ms ≡ true)
unfolding are_tame
first m ms h = let p = and_parts (not (is_wild m)) (are_tame ms) h in (not_wild _ p.0, p.1)

pub tame : (ms : List Move) → are_tame ms ≡ true → Tame ms
unfolding before_test behind_test test_of
tame [] h = record { accesses = refl; test = refl; before = refl; behind = refl }
tame (m ∷ ms) h =
    let p = first m ms h in
    let rest = tame ms p.1 in
    let e : test_in m ≡ None = test_less m p.0 in
    let a : accesses_by m ≡ 0 = access_less m p.0 in
    record {
      accesses = omega (arith, rest.accesses);
      test = rw e rest.test;
      before = rw e (ap (λ xs. m ∷ xs) rest.before);
      behind = rw e rest.behind;
    }

rest_along : (a b c : DraftView) → Rest a b → Rest b c → Rest a c
rest_along a b c p q = record { taken = q.taken ∙ p.taken; halts = q.halts ∙ p.halts; i = q.i ∙ p.i }

pub moves_rest : (o : Outside) (ms : List Move) (e : DraftView) → are_tame ms ≡ true → Rest e (drafted o ms e)
unfolding drafted
moves_rest o [] e h = record { taken = refl; halts = refl; i = refl }
moves_rest o (m ∷ ms) e h =
    let p = first m ms h in
    let on : goes_on m (moved o m e) ≡ true = goes m (moved o m e) p.0 in
    rw on (rest_along _ _ _ (move_rest o m e p.0) (moves_rest o ms (moved o m e) p.1))

pub moves_pc : (g : GroundView) (inline : Bool) (ms : List Move) (k : AbsDraft) → are_tame ms ≡ true → IsOne k.pc → IsOne (after_moves g inline ms k).pc
unfolding after_moves
moves_pc g inline [] k h one = one
moves_pc g inline (m ∷ ms) k h one = let p = first m ms h in moves_pc g inline ms (after_move g inline m k) p.1 (move_pc g inline m k p.0 one)
