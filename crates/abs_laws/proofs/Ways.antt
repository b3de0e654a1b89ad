-- The two outcomes of a list of moves: its test held, or it did not.
use Rattle.std.proofs.Common.{◌≡◌, ◌+◌, ◌≤◌, ℕ, Bool, true, false, cond, refl, sym, ◌∙◌, ap, subst, arith, List, [], ◌∷◌, length, Some, None, IsSomeAnd}
use Rattle.intervals.specs.Domain.{Entry}
use Rattle.loop_bounds.specs.Effect.{Valuation}
use Rattle.z80_draft.proofs.DraftLemmas.{counts, drafted_on}
use Rattle.z80_draft.specs.Draft.{DraftView, drafted, moved, test_holds, with_byte, with_word}
use Rattle.z80_draft.specs.Outside.{Outside}
use Rattle.z80_draft.specs.Room.{accesses_in, writes_in}
use Rattle.z80_moves.specs.declared.moves.Move.{Move}
use Rattle.z80_moves.specs.declared.moves.Move.TheVariants.{SetByte, SetWord, CopyByte, CopyWord, Displace, ReadByte, ReadWord, Pop, ExchangeStack, Increment, Decrement, CountDown, Shift, AddWord, AddCarryWord, SubtractCarryWord, IncrementWord, DecrementWord, SetBit, ResetBit, OnlyIf}
use Rattle.z80_moves.specs.declared.moves.Test.{Test}
use Rattle.z80_moves.specs.declared.registers.ByteRegister.{ByteRegister}
use Rattle.z80_moves.specs.declared.registers.ByteRegister.TheVariants as bytes
use Rattle.z80_moves.specs.declared.registers.WordRegister.{WordRegister}
use Rattle.z80_moves.specs.declared.registers.WordRegister.TheVariants as words
use Rattle.abs_state.specs.declared.state.AbsState.{AbsState}
use Rattle.abs_draft.specs.Ground.{GroundView}
use Rattle.abs_draft.specs.Outcomes.{after_moves, before_test, behind_test, test_in, test_of, tested}
use Rattle.abs_draft.specs.declared.draft.AbsDraft.{AbsDraft}
use Rattle.abs_laws.specs.Fits.{Fits, ReadsFit}
use Rattle.abs_laws.specs.Lists.{KeepsEffectAndShape, MayRun, marked}
use Rattle.abs_laws.proofs.Lists.{first_none, goes, list_fits, parts_of_list, second_none, with_test, without_test}
use Rattle.abs_laws.proofs.Tests.{both_some, each_some, test_fits_taken, test_tells_the_same}

-- ---- a move that is no test keeps the outcome

byte_taken : (r : ByteRegister) (n : ℕ) (d : DraftView) → (with_byte r n d).taken ≡ d.taken
byte_taken bytes.A n d = refl
byte_taken _ n d = refl

word_taken : (w : WordRegister) (n : ℕ) (d : DraftView) → (with_word w n d).taken ≡ d.taken
word_taken words.Af n d = refl
word_taken _ n d = refl

move_keeps_taken : (o : Outside) (m : Move) (d : DraftView) → test_in m ≡ None → (moved o m d).taken ≡ d.taken
unfolding moved
move_keeps_taken o (SetByte r n) d e = byte_taken r _ d
move_keeps_taken o (SetWord w nn) d e = word_taken w _ d
move_keeps_taken o (CopyByte to from) d e = byte_taken to _ d
move_keeps_taken o (CopyWord to from) d e = word_taken to _ d
move_keeps_taken o (Displace w by) d e = word_taken w _ d
move_keeps_taken o (ReadByte r at) d e = byte_taken r _ d
move_keeps_taken o (ReadWord w at) d e = word_taken w _ d
move_keeps_taken o (Pop w) d e = word_taken w _ _
move_keeps_taken o (ExchangeStack w) d e = word_taken w _ _
move_keeps_taken o (Increment r) d e = byte_taken r _ d
move_keeps_taken o (Decrement r) d e = byte_taken r _ d
move_keeps_taken o (CountDown r) d e = byte_taken r _ d
move_keeps_taken o (Shift kind r) d e = byte_taken r _ d
move_keeps_taken o (AddWord to w) d e = word_taken to _ d
move_keeps_taken o (AddCarryWord to w) d e = word_taken to _ d
move_keeps_taken o (SubtractCarryWord to w) d e = word_taken to _ d
move_keeps_taken o (IncrementWord w) d e = word_taken w _ d
move_keeps_taken o (DecrementWord w) d e = word_taken w _ d
move_keeps_taken o (SetBit b r) d e = byte_taken r _ d
move_keeps_taken o (ResetBit b r) d e = byte_taken r _ d
move_keeps_taken o (OnlyIf test) d e = absurd (cc)
move_keeps_taken o _ d e = refl

pub moves_keep_taken : (o : Outside) (ms : List Move) (d : DraftView) → test_of ms ≡ None → (drafted o ms d).taken ≡ d.taken
unfolding drafted test_of
moves_keep_taken o [] d e = refl
moves_keep_taken o (m ∷ ms) d e =
    let here = first_none (test_in m) (test_of ms) e in
    ap (λ (x : DraftView). x.taken) (drafted_on o m ms d (goes m (moved o m d) here)) ∙ moves_keep_taken o ms (moved o m d) (second_none (test_in m) (test_of ms) e) ∙ move_keeps_taken o m d here

-- the draft of a list with a test has the outcome of the test
pub taken_is : (o : Outside) (ms : List Move) (test : Test) (d : DraftView) → test_of ms ≡ Some test → test_of (behind_test ms) ≡ None → (drafted o ms d).taken ≡ test_holds test (drafted o (before_test ms) d)
taken_is o ms test d e none =
    let at = drafted o (before_test ms) d in
    ap (λ (x : DraftView). x.taken) (with_test o ms test d e) ∙ either (test_holds test at) (drafted o (behind_test ms) (marked test at)) (marked test at) (test_holds test at) (moves_keep_taken o (behind_test ms) (marked test at) none) refl
  where
    either : (b : Bool) (x y : DraftView) (taken : Bool) → x.taken ≡ taken → y.taken ≡ taken → (cond b x y).taken ≡ taken
    either true x y taken p q = p
    either false x y taken p q = q

-- ---- data writes of a list

moves_write : (o : Outside) (ms : List Move) (d : DraftView) → test_of ms ≡ None → length (drafted o ms d).writes ≡ length d.writes + writes_in ms
unfolding drafted test_of
moves_write o [] d e = omega arith
moves_write o (m ∷ ms) d e =
    let on = ap (λ (x : DraftView). length x.writes) (drafted_on o m ms d (goes m (moved o m d) (first_none (test_in m) (test_of ms) e))) in
    let rest = moves_write o ms (moved o m d) (second_none (test_in m) (test_of ms) e) in
    let one = (counts o m d).writes in
    omega arith

-- ---- soundness

module _ (g : GroundView) (start : AbsState) (o : Outside) (inline : Bool) (ms : List Move) (k : AbsDraft) (entry : Entry) (before : Valuation) (d : DraftView) (stack : List ℕ) (may : MayRun g o k d ms) (f : Fits g start k entry before d stack) where
  -- at the test, or at the end without one
  pub test_met : accesses_in (before_test ms) ≡ 0 → Fits g start (after_moves g inline (before_test ms) k) entry before (drafted o (before_test ms) d) stack
  test_met access_free =
      let parts = parts_of_list ms in
      let room = may.room in
      let count : writes_in (before_test ms) + writes_in (behind_test ms) ≡ writes_in ms = parts.writes in
      list_fits g start o inline (before_test ms) k entry before d stack access_free (parts.in_range may.in_range).0 parts.before_has_none (omega arith) may.reads f

  pub goes_straight : accesses_in ms ≡ 0 → test_of ms ≡ None → Fits g start (after_moves g inline (before_test ms) k) entry before (drafted o ms d) stack
  goes_straight access_free none =
      let parts = parts_of_list ms in
      let count : accesses_in (before_test ms) + accesses_in (behind_test ms) ≡ accesses_in ms = parts.accesses in
      rw (without_test o ms d none) (test_met (omega arith))

  module _ (test : Test) (e : test_of ms ≡ Some test) where
    told : (b : Bool) → (drafted o ms d).taken ≡ b → test_holds test (drafted o (before_test ms) d) ≡ b
    told b h = sym (taken_is o ms test d e may.once) ∙ h

    restricted : accesses_in (before_test ms) ≡ 0 → (b : Bool) → (drafted o ms d).taken ≡ b → IsSomeAnd (tested test b (after_moves g inline (before_test ms) k)) (λ n. Fits g start n entry before (marked test (drafted o (before_test ms) d)) stack)
    restricted access_free b h = test_fits_taken g start test b (test_holds test (drafted o (before_test ms) d)) (after_moves g inline (before_test ms) k) entry before (drafted o (before_test ms) d) stack (told b h) (test_met access_free)

    ends_so : (b : Bool) → (drafted o ms d).taken ≡ b → drafted o ms d ≡ cond b (drafted o (behind_test ms) (marked test (drafted o (before_test ms) d))) (marked test (drafted o (before_test ms) d))
    ends_so b h =
        let at = drafted o (before_test ms) d in
        with_test o ms test d e ∙ ap (λ (t : Bool). cond t (drafted o (behind_test ms) (marked test at)) (marked test at)) (told b h)

    -- the test did not hold
    pub goes_left : accesses_in (before_test ms) ≡ 0 → (drafted o ms d).taken ≡ false → IsSomeAnd (tested test false (after_moves g inline (before_test ms) k)) (λ n. Fits g start n entry before (drafted o ms d) stack)
    goes_left access_free h =
        subst (λ (x : DraftView). IsSomeAnd (tested test false (after_moves g inline (before_test ms) k)) (λ n. Fits g start n entry before x stack)) (sym (ends_so false h)) (restricted access_free false h)

    -- the test held, before the moves after it
    pub goes_held : accesses_in (before_test ms) ≡ 0 → (drafted o ms d).taken ≡ true
        → IsSomeAnd (tested test true (after_moves g inline (before_test ms) k)) (λ n. Fits g start n entry before (marked test (drafted o (before_test ms) d)) stack × KeepsEffectAndShape (after_moves g inline (before_test ms) k) n)
        × (drafted o ms d ≡ drafted o (behind_test ms) (marked test (drafted o (before_test ms) d)))
    goes_held access_free h = (
      both_some (tested test true (after_moves g inline (before_test ms) k)) (λ n. Fits g start n entry before (marked test (drafted o (before_test ms) d)) stack) (KeepsEffectAndShape (after_moves g inline (before_test ms) k))
          (restricted access_free true h) (test_tells_the_same test true (after_moves g inline (before_test ms) k)),
      ends_so true h,
    )

    -- the test held, after those moves
    pub goes_taken : accesses_in ms ≡ 0 → (drafted o ms d).taken ≡ true → IsSomeAnd (tested test true (after_moves g inline (before_test ms) k)) (λ n. Fits g start (after_moves g inline (behind_test ms) n) entry before (drafted o ms d) stack)
    goes_taken access_free h =
        let parts = parts_of_list ms in
        let at = drafted o (before_test ms) d in
        let accesses : accesses_in (before_test ms) + accesses_in (behind_test ms) ≡ accesses_in ms = parts.accesses in
        let writes : writes_in (before_test ms) + writes_in (behind_test ms) ≡ writes_in ms = parts.writes in
        let made : length at.writes ≡ length d.writes + writes_in (before_test ms) = moves_write o (before_test ms) d parts.before_has_none in
        let room : length d.writes + writes_in ms ≤ 2 = may.room in
        let reads : ReadsFit g o start.armed = subst (λ (n : ℕ). ReadsFit g o n) f.readable may.reads in
        subst (λ (x : DraftView). IsSomeAnd (tested test true (after_moves g inline (before_test ms) k)) (λ n. Fits g start (after_moves g inline (behind_test ms) n) entry before x stack)) (sym (ends_so true h))
        (each_some (tested test true (after_moves g inline (before_test ms) k)) (λ n. Fits g start n entry before (marked test at) stack) (λ n. Fits g start (after_moves g inline (behind_test ms) n) entry before (drafted o (behind_test ms) (marked test at)) stack)
        (λ n fits. list_fits g start o inline (behind_test ms) n entry before (marked test at) stack (omega arith) (parts.in_range may.in_range).1 may.once (omega arith) (subst (λ (m : ℕ). ReadsFit g o m) (sym fits.readable) reads) fits)
        (restricted (omega arith) true h))
