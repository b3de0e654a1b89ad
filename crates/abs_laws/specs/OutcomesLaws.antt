-- What the laws of src/outcomes.rt say: each is the contract of the function with its name.
use Rattle.std.specs.Prelude.{ℕ, ◌≡◌, Bool, List, IsSomeAnd, IfSome, ◌+◌, ◌≤◌, None, length, Some, if◌then◌else◌, false, true}
use Rattle.intervals.specs.Domain.{Entry}
use Rattle.loop_bounds.specs.Effect.{Valuation, change_of}
use Rattle.z80_draft.specs.Draft.{DraftView, test_holds, drafted}
use Rattle.z80_moves.specs.declared.moves.Test.{Test}
use Rattle.abs_state.specs.declared.state.AbsState.{AbsState}
use Rattle.abs_draft.specs.Ground.{GroundView}
use Rattle.abs_draft.specs.Outcomes.{tested, after_moves, test_of, before_test, behind_test, settled}
use Rattle.abs_draft.specs.declared.draft.AbsDraft.{AbsDraft}
use Rattle.abs_laws.specs.Fits.{Fits, AreInRange, ReadsFit, FollowsChange, IsThere, seen_by_draft}
use Rattle.abs_laws.specs.Lists.{KeepsEffectAndShape, marked, MayRun}
use Rattle.z80_draft.specs.Outside.{Outside}
use Rattle.z80_draft.specs.Room.{accesses_in, writes_in}
use Rattle.z80_moves.specs.declared.moves.Move.{Move}
use Rattle.loop_bounds.specs.declared.variable.Variable.{Variable}
use Rattle.abs_state.specs.Variables.{value_in}

abbrev pub TestsFitLeft : Type 0
TestsFitLeft =
    (g : GroundView) (start : AbsState) (test : Test) (held : Bool) (k : AbsDraft) (entry : Entry) (before : Valuation) (draft : DraftView) (words : List ℕ)
    → test_holds test draft ≡ held → Fits g start k entry before draft words
    → IsSomeAnd (tested test held k) (λ n. Fits g start n entry before draft words)

abbrev pub TestsFitMarked : Type 0
TestsFitMarked =
    (g : GroundView) (start : AbsState) (test : Test) (held taken : Bool) (k : AbsDraft) (entry : Entry) (before : Valuation) (draft : DraftView) (words : List ℕ)
    → test_holds test draft ≡ held → Fits g start k entry before draft words
    → IsSomeAnd (tested test held k) (λ n. Fits g start n entry before (record draft { taken = taken }) words)

abbrev pub TestsFitTaken : Type 0
TestsFitTaken =
    (g : GroundView) (start : AbsState) (k : AbsDraft) (entry : Entry) (before : Valuation) (draft : DraftView) (words : List ℕ) (taken : Bool)
    → Fits g start k entry before draft words → Fits g start k entry before (record draft { taken = taken }) words

abbrev pub TestsFitKept : Type 0
TestsFitKept =
    (test : Test) (held : Bool) (k : AbsDraft) → IfSome (tested test held k) (KeepsEffectAndShape k)

abbrev pub ListsFit : Type 0
ListsFit =
    (g : GroundView) (start : AbsState) (o : Outside) (inline : Bool) (moves : List Move) (k : AbsDraft) (entry : Entry) (before : Valuation) (draft : DraftView) (words : List ℕ)
    → accesses_in moves ≡ 0 → AreInRange moves → test_of moves ≡ None → length draft.writes + writes_in moves ≤ 2
    → ReadsFit g o k.readable → Fits g start k entry before draft words
    → Fits g start (after_moves g inline moves k) entry before (drafted o moves draft) words

abbrev pub ListsGoByTheirTestWithout : Type 0
ListsGoByTheirTestWithout =
    (o : Outside) (moves : List Move) (draft : DraftView) → test_of moves ≡ None
    → drafted o moves draft ≡ drafted o (before_test moves) draft

abbrev pub ListsGoByTheirTestWithTest : Type 0
ListsGoByTheirTestWithTest =
    (o : Outside) (moves : List Move) (test : Test) (draft : DraftView) → test_of moves ≡ Some test
    → drafted o moves draft ≡ if test_holds test (drafted o (before_test moves) draft) then drafted o (behind_test moves) (marked test (drafted o (before_test moves) draft)) else marked test (drafted o (before_test moves) draft)

abbrev pub WaysFitMet : Type 0
WaysFitMet =
    (g : GroundView) (start : AbsState) (o : Outside) (inline : Bool) (moves : List Move) (k : AbsDraft) (entry : Entry) (before : Valuation) (draft : DraftView) (words : List ℕ)
    → MayRun g o k draft moves → Fits g start k entry before draft words → accesses_in (before_test moves) ≡ 0
    → Fits g start (after_moves g inline (before_test moves) k) entry before (drafted o (before_test moves) draft) words

abbrev pub WaysFitStraight : Type 0
WaysFitStraight =
    (g : GroundView) (start : AbsState) (o : Outside) (inline : Bool) (moves : List Move) (k : AbsDraft) (entry : Entry) (before : Valuation) (draft : DraftView) (words : List ℕ)
    → MayRun g o k draft moves → Fits g start k entry before draft words → accesses_in moves ≡ 0 → test_of moves ≡ None
    → Fits g start (after_moves g inline (before_test moves) k) entry before (drafted o moves draft) words

abbrev pub WaysFitLeft : Type 0
WaysFitLeft =
    (g : GroundView) (start : AbsState) (o : Outside) (inline : Bool) (moves : List Move) (k : AbsDraft) (entry : Entry) (before : Valuation) (draft : DraftView) (words : List ℕ)
    → MayRun g o k draft moves → Fits g start k entry before draft words → (test : Test) → test_of moves ≡ Some test
    → accesses_in (before_test moves) ≡ 0 → (drafted o moves draft).taken ≡ false
    → IsSomeAnd (tested test false (after_moves g inline (before_test moves) k)) (λ n. Fits g start n entry before (drafted o moves draft) words)

abbrev pub WaysFitHeld : Type 0
WaysFitHeld =
    (g : GroundView) (start : AbsState) (o : Outside) (inline : Bool) (moves : List Move) (k : AbsDraft) (entry : Entry) (before : Valuation) (draft : DraftView) (words : List ℕ)
    → MayRun g o k draft moves → Fits g start k entry before draft words → (test : Test) → test_of moves ≡ Some test
    → accesses_in (before_test moves) ≡ 0 → (drafted o moves draft).taken ≡ true
    → IsSomeAnd (tested test true (after_moves g inline (before_test moves) k)) (λ n. Fits g start n entry before (marked test (drafted o (before_test moves) draft)) words × KeepsEffectAndShape (after_moves g inline (before_test moves) k) n) × (drafted o moves draft ≡ drafted o (behind_test moves) (marked test (drafted o (before_test moves) draft)))

abbrev pub WaysFitTaken : Type 0
WaysFitTaken =
    (g : GroundView) (start : AbsState) (o : Outside) (inline : Bool) (moves : List Move) (k : AbsDraft) (entry : Entry) (before : Valuation) (draft : DraftView) (words : List ℕ)
    → MayRun g o k draft moves → Fits g start k entry before draft words → (test : Test) → test_of moves ≡ Some test
    → accesses_in moves ≡ 0 → (drafted o moves draft).taken ≡ true
    → IsSomeAnd (tested test true (after_moves g inline (before_test moves) k)) (λ n. Fits g start (after_moves g inline (behind_test moves) n) entry before (drafted o moves draft) words)

abbrev pub SettledEffectsFollow : Type 0
SettledEffectsFollow =
    (g : GroundView) (start : AbsState) (k : AbsDraft) (entry : Entry) (before : Valuation) (draft : DraftView) (words : List ℕ)
    → Fits g start k entry before draft words → (v : Variable) → IsThere (length words) v
    → FollowsChange (change_of (settled k.state k.effect) v) before (value_in (seen_by_draft draft words) v)
