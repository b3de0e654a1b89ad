-- Moves that do not use the stack and do not write SP.
use Rattle.std.proofs.Common.{◌≡◌, ◌==◌, ℕ, Bool, true, false, not, List, [], ◌∷◌, refl, ◌∙◌, arith}
use Rattle.std.proofs.Math.Bool.{cond}
use Rattle.std.proofs.lemmas.Bool.{and_parts, eqb-true}
use Rattle.z80_draft.proofs.DraftLemmas.{byte_keeps, word_keeps}
use Rattle.z80_draft.specs.Draft.{DraftView, drafted, goes_on, moved, with_byte, with_word}
use Rattle.z80_draft.specs.Outside.{Outside}
use Rattle.z80_draft.specs.Room.{accesses_by, accesses_in}
use Rattle.z80_moves.specs.declared.registers.ByteRegister.{ByteRegister}
use Rattle.z80_moves.specs.declared.registers.ByteRegister.TheVariants as bytes
use Rattle.z80_moves.specs.declared.registers.WordRegister.{WordRegister}
use Rattle.z80_moves.specs.declared.registers.WordRegister.TheVariants as words
use Rattle.z80_moves.specs.declared.moves.Move.{Move}
use Rattle.z80_moves.specs.declared.moves.Move.TheVariants.{SetByte, SetWord, CopyByte, CopyWord, Displace, ReadByte, ReadWord, Push, Pop, ExchangeStack, Increment, Decrement, CountDown, Shift, AddWord, AddCarryWord, SubtractCarryWord, IncrementWord, DecrementWord, SetBit, ResetBit}
use Rattle.board_laws.specs.Stackless.{are_stackless, is_stackless, is_sp, writes_sp}

-- ---- SP

byte_sp : (r : ByteRegister) (n : ℕ) (e : DraftView) → (with_byte r n e).regs.sp ≡ e.regs.sp
byte_sp bytes.Operand n e = refl
byte_sp _ n e = refl

pub word_sp : (w : WordRegister) (n : ℕ) (e : DraftView) → is_sp w ≡ false → (with_word w n e).regs.sp ≡ e.regs.sp
word_sp words.Sp n e h = absurd (cc)
word_sp _ n e h = refl

-- a move that does not write SP keeps it
pub move_keeps_sp : (o : Outside) (m : Move) (e : DraftView) → writes_sp m ≡ false → (moved o m e).regs.sp ≡ e.regs.sp
unfolding moved
move_keeps_sp o (SetByte r n) e h = byte_sp r _ e
move_keeps_sp o (SetWord w nn) e h = word_sp w _ e h
move_keeps_sp o (CopyByte to from) e h = byte_sp to _ e
move_keeps_sp o (CopyWord to from) e h = word_sp to _ e h
move_keeps_sp o (Displace w d) e h = word_sp w _ e h
move_keeps_sp o (ReadByte r at) e h = byte_sp r _ e
move_keeps_sp o (ReadWord w at) e h = word_sp w _ e h
move_keeps_sp o (Push w) e h = absurd (cc)
move_keeps_sp o (Pop w) e h = absurd (cc)
move_keeps_sp o (ExchangeStack w) e h = word_sp w _ _ h
move_keeps_sp o (Increment r) e h = byte_sp r _ e
move_keeps_sp o (Decrement r) e h = byte_sp r _ e
move_keeps_sp o (CountDown r) e h = byte_sp r _ e
move_keeps_sp o (Shift kind r) e h = byte_sp r _ e
move_keeps_sp o (AddWord to w) e h = word_sp to _ e h
move_keeps_sp o (AddCarryWord to w) e h = word_sp to _ e h
move_keeps_sp o (SubtractCarryWord to w) e h = word_sp to _ e h
move_keeps_sp o (IncrementWord w) e h = word_sp w _ e h
move_keeps_sp o (DecrementWord w) e h = word_sp w _ e h
move_keeps_sp o (SetBit b r) e h = byte_sp r _ e
move_keeps_sp o (ResetBit b r) e h = byte_sp r _ e
move_keeps_sp o _ e h = refl

-- ---- the stack's accesses

-- a move that makes none adds none
pub move_keeps_accesses : (o : Outside) (m : Move) (e : DraftView) → accesses_by m ≡ 0 → (moved o m e).stack ≡ e.stack
unfolding moved
move_keeps_accesses o (SetByte r n) e h = (byte_keeps r _ e).stack
move_keeps_accesses o (SetWord w nn) e h = (word_keeps w _ e).stack
move_keeps_accesses o (CopyByte to from) e h = (byte_keeps to _ e).stack
move_keeps_accesses o (CopyWord to from) e h = (word_keeps to _ e).stack
move_keeps_accesses o (Displace w d) e h = (word_keeps w _ e).stack
move_keeps_accesses o (ReadByte r at) e h = (byte_keeps r _ e).stack
move_keeps_accesses o (ReadWord w at) e h = (word_keeps w _ e).stack
move_keeps_accesses o (Push w) e h = absurd (omega arith)
move_keeps_accesses o (Pop w) e h = absurd (omega arith)
move_keeps_accesses o (ExchangeStack w) e h = absurd (omega arith)
move_keeps_accesses o (Increment r) e h = (byte_keeps r _ e).stack
move_keeps_accesses o (Decrement r) e h = (byte_keeps r _ e).stack
move_keeps_accesses o (CountDown r) e h = (byte_keeps r _ e).stack
move_keeps_accesses o (Shift kind r) e h = (byte_keeps r _ e).stack
move_keeps_accesses o (AddWord to w) e h = (word_keeps to _ e).stack
move_keeps_accesses o (AddCarryWord to w) e h = (word_keeps to _ e).stack
move_keeps_accesses o (SubtractCarryWord to w) e h = (word_keeps to _ e).stack
move_keeps_accesses o (IncrementWord w) e h = (word_keeps w _ e).stack
move_keeps_accesses o (DecrementWord w) e h = (word_keeps w _ e).stack
move_keeps_accesses o (SetBit b r) e h = (byte_keeps r _ e).stack
move_keeps_accesses o (ResetBit b r) e h = (byte_keeps r _ e).stack
move_keeps_accesses o _ e h = refl

-- ---- lists of moves

-- a property of two drafts holds for either
either : (P : DraftView → Type 0) (b : Bool) (x y : DraftView) → P x → P y → P (cond b x y)
either P true x y p q = p
either P false x y p q = q

pub moves_keep_accesses : (o : Outside) (ms : List Move) (e : DraftView) → accesses_in ms ≡ 0 → (drafted o ms e).stack ≡ e.stack
unfolding drafted
moves_keep_accesses o [] e h = refl
moves_keep_accesses o (m ∷ ms) e h =
    let one : (moved o m e).stack ≡ e.stack = move_keeps_accesses o m e (omega arith) in
    let rest = moves_keep_accesses o ms (moved o m e) (omega arith) in
    either (λ d. d.stack ≡ e.stack) (goes_on m (moved o m e)) (drafted o ms (moved o m e)) (moved o m e) (rest ∙ one) one

-- what stackless moves keep
pub record Stackless (old new : DraftView) : Type 0 where
  pub stack : new.stack ≡ old.stack
  pub sp : new.regs.sp ≡ old.regs.sp

not_true : (b : Bool) → not b ≡ true → b ≡ false
not_true false h = refl
not_true true h = absurd (cc)

pub move_is_stackless : (o : Outside) (m : Move) (e : DraftView) → is_stackless m ≡ true → Stackless e (moved o m e)
move_is_stackless o m e h =
    let p = and_parts (accesses_by m == 0) (not (writes_sp m)) h in
    record { stack = move_keeps_accesses o m e (eqb-true _ _ p.0); sp = move_keeps_sp o m e (not_true (writes_sp m) p.1) }

pub moves_are_stackless : (o : Outside) (ms : List Move) (e : DraftView) → are_stackless ms ≡ true → Stackless e (drafted o ms e)
unfolding drafted are_stackless
moves_are_stackless o [] e h = record { stack = refl; sp = refl }
moves_are_stackless o (m ∷ ms) e h =
    let p = and_parts (is_stackless m) (are_stackless ms) h in
    let one = move_is_stackless o m e p.0 in
    let rest = moves_are_stackless o ms (moved o m e) p.1 in
    either (Stackless e) (goes_on m (moved o m e)) (drafted o ms (moved o m e)) (moved o m e) (record { stack = rest.stack ∙ one.stack; sp = rest.sp ∙ one.sp }) one
