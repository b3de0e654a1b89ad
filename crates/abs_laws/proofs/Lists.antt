-- The moves of a list one after another, and its test.
use Rattle.std.proofs.Common.{◌≡◌, ◌+◌, ◌≤◌, ℕ, Bool, true, cond, refl, sym, ap, subst, arith, List, [], ◌∷◌, length, Option, Some, None}
use Rattle.intervals.specs.Domain.{Entry}
use Rattle.loop_bounds.specs.Effect.{Valuation}
use Rattle.z80_draft.proofs.DraftLemmas.{counts, drafted_on}
use Rattle.z80_draft.specs.Draft.{DraftView, drafted, moved, goes_on, test_holds}
use Rattle.z80_draft.specs.Outside.{Outside}
use Rattle.z80_draft.specs.Room.{accesses_in, writes_in}
use Rattle.z80_moves.specs.declared.moves.Move.{Move}
use Rattle.z80_moves.specs.declared.moves.Move.TheVariants.{OnlyIf}
use Rattle.z80_moves.specs.declared.moves.Test.{Test}
use Rattle.abs_state.specs.declared.state.AbsState.{AbsState}
use Rattle.abs_draft.specs.AfterMove.{after_move}
use Rattle.abs_draft.specs.Ground.{GroundView}
use Rattle.abs_draft.specs.Outcomes.{after_moves, before_test, behind_test, test_in, test_of, test_or}
use Rattle.abs_draft.specs.declared.draft.AbsDraft.{AbsDraft}
use Rattle.abs_laws.specs.Fits.{AreInRange, Fits, ReadsFit}
use Rattle.abs_laws.specs.Lists.{IsParted, marked}
use Rattle.abs_laws.proofs.AccessFreeMoves.{access_free_fits}

-- ---- the test of a list

pub first_none : (a b : Option Test) → test_or a b ≡ None → a ≡ None
first_none None b e = refl
first_none (Some test) b e = absurd (cc)

pub second_none : (a b : Option Test) → test_or a b ≡ None → b ≡ None
second_none None b e = e
second_none (Some test) b e = absurd (cc)

pub goes : (m : Move) (d : DraftView) → test_in m ≡ None → goes_on m d ≡ true
goes (OnlyIf test) d e = absurd (cc)
goes _ d e = refl

-- without a test all moves are before it
pub none_behind : (ms : List Move) → test_of ms ≡ None → before_test ms ≡ ms
unfolding test_of before_test
none_behind [] e = refl
none_behind (m ∷ ms) e =
    rw (first_none (test_in m) (test_of ms) e) (ap (λ (xs : List Move). m ∷ xs) (none_behind ms (second_none (test_in m) (test_of ms) e)))

pub without_test : (o : Outside) (ms : List Move) (d : DraftView) → test_of ms ≡ None → drafted o ms d ≡ drafted o (before_test ms) d
without_test o ms d e = ap (λ (xs : List Move). drafted o xs d) (sym (none_behind ms e))

-- the moves before the test have none
pub none_before : (ms : List Move) → test_of (before_test ms) ≡ None
unfolding test_of before_test
none_before [] = refl
none_before (OnlyIf test ∷ ms) = refl
none_before (m ∷ ms) = none_before ms

some_same : (a b : Test) → Some a ≡ Some b → a ≡ b
some_same a b e = cc

pub with_test : (o : Outside) (ms : List Move) (test : Test) (d : DraftView) → test_of ms ≡ Some test →
    drafted o ms d ≡ cond (test_holds test (drafted o (before_test ms) d)) (drafted o (behind_test ms) (marked test (drafted o (before_test ms) d))) (marked test (drafted o (before_test ms) d))
unfolding drafted moved test_of before_test behind_test
with_test o [] test d e = absurd (cc)
with_test o (OnlyIf t ∷ ms) test d e = rw (some_same t test e) refl
with_test o (m ∷ ms) test d e = with_test o ms test (moved o m d) e

-- ---- soundness

module _ (g : GroundView) (start : AbsState) (o : Outside) (inline : Bool) (entry : Entry) (before : Valuation) (stack : List ℕ) (reads : ReadsFit g o start.armed) where
  pub all_fit : (ms : List Move) (k : AbsDraft) (d : DraftView) → accesses_in ms ≡ 0 → AreInRange ms → test_of ms ≡ None → length d.writes + writes_in ms ≤ 2 → Fits g start k entry before d stack
      → Fits g start (after_moves g inline ms k) entry before (drafted o ms d) stack
  unfolding drafted after_moves test_of AreInRange
  all_fit [] k d access_free range none room f = f
  all_fit (m ∷ ms) k d access_free range none room f =
      let known : ReadsFit g o k.readable = subst (λ (n : ℕ). ReadsFit g o n) (sym f.readable) reads in
      let count = (counts o m d).writes in
      let one = access_free_fits g start o inline k entry before d stack known f m (omega arith) range.0 (omega arith) in
      let rest = all_fit ms (after_move g inline m k) (moved o m d) (omega arith) range.1 (second_none (test_in m) (test_of ms) none) (omega arith) one in
      subst (λ (x : DraftView). Fits g start (after_moves g inline ms (after_move g inline m k)) entry before x stack) (sym (drafted_on o m ms d (goes m (moved o m d) (first_none (test_in m) (test_of ms) none)))) rest

pub list_fits : (g : GroundView) (start : AbsState) (o : Outside) (inline : Bool) (ms : List Move) (k : AbsDraft) (entry : Entry) (before : Valuation) (d : DraftView) (stack : List ℕ)
    → accesses_in ms ≡ 0 → AreInRange ms → test_of ms ≡ None → length d.writes + writes_in ms ≤ 2 → ReadsFit g o k.readable → Fits g start k entry before d stack
    → Fits g start (after_moves g inline ms k) entry before (drafted o ms d) stack
list_fits g start o inline ms k entry before d stack access_free range none room reads f =
    all_fit g start o inline entry before stack (subst (λ (n : ℕ). ReadsFit g o n) f.readable reads) ms k d access_free range none room f

-- ---- the parts of a list

parts_in_range : (ms : List Move) → AreInRange ms → AreInRange (before_test ms) × AreInRange (behind_test ms)
unfolding before_test behind_test AreInRange
parts_in_range [] h = (tt, tt)
parts_in_range (OnlyIf test ∷ ms) h = (tt, h.1)
parts_in_range (m ∷ ms) h = let rest = parts_in_range ms h.1 in ((h.0, rest.0), rest.1)

parts_write : (ms : List Move) → writes_in (before_test ms) + writes_in (behind_test ms) ≡ writes_in ms
unfolding before_test behind_test
parts_write [] = refl
parts_write (OnlyIf test ∷ ms) = refl
parts_write (m ∷ ms) = let rest = parts_write ms in omega arith

parts_access : (ms : List Move) → accesses_in (before_test ms) + accesses_in (behind_test ms) ≡ accesses_in ms
unfolding before_test behind_test
parts_access [] = refl
parts_access (OnlyIf test ∷ ms) = refl
parts_access (m ∷ ms) = let rest = parts_access ms in omega arith

pub parts_of_list : (ms : List Move) → IsParted ms
parts_of_list ms = record { before_has_none = none_before ms; in_range = parts_in_range ms; writes = parts_write ms; accesses = parts_access ms }
