-- What the laws of src/stack.rt say: each is the contract of the function with its name.
use Rattle.std.specs.Prelude.{ℕ, ◌<◌, ◌≡◌, ◌++◌, Bool, true, List, [], ◌∷◌, None, length, false}
use Rattle.intervals.specs.Domain.{Entry}
use Rattle.loop_bounds.specs.Effect.{Valuation}
use Rattle.z80_draft.specs.Draft.{DraftView, moved, draft_word, word_read}
use Rattle.z80_draft.specs.Outside.{Outside}
use Rattle.z80_moves.specs.declared.moves.Move.TheVariants.{Push, Pop, ExchangeStack}
use Rattle.z80_moves.specs.declared.registers.WordRegister.{WordRegister}
use Rattle.z80_moves.specs.declared.registers.WordRegister.TheVariants.{Pc}
use Rattle.abs_state.specs.declared.state.AbsState.{AbsState}
use Rattle.abs_draft.specs.AfterMove.{after_move}
use Rattle.abs_draft.specs.Ground.{GroundView}
use Rattle.abs_draft.specs.declared.draft.AbsDraft.{AbsDraft}
use Rattle.abs_laws.specs.Fits.{Fits}

abbrev pub PushesFitPushed : Type 0
PushesFitPushed =
    (g : GroundView) (start : AbsState) (o : Outside) (inline : Bool) (register : WordRegister) (k : AbsDraft) (entry : Entry) (before : Valuation) (draft : DraftView) (words : List ℕ)
    → (register ≡ Pc → inline ≡ true) → k.effect.slot ≡ None → length k.state.shape < 64
    → Fits g start k entry before draft words
    → Fits g start (after_move g inline (Push register) k) entry before (moved o (Push register) draft) (words ++ draft_word register draft ∷ [])

abbrev pub PushesFitCalled : Type 0
PushesFitCalled =
    (g : GroundView) (start : AbsState) (o : Outside) (k : AbsDraft) (entry : Entry) (before : Valuation) (draft : DraftView) (words : List ℕ)
    → Fits g start k entry before draft words
    → Fits g start (after_move g false (Push Pc) k) entry before (moved o (Push Pc) draft) words

abbrev pub PopsFitPopped : Type 0
PopsFitPopped =
    (g : GroundView) (start : AbsState) (o : Outside) (inline : Bool) (register : WordRegister) (k : AbsDraft) (entry : Entry) (before : Valuation) (draft : DraftView) (rest : List ℕ) (word : ℕ)
    → word < 65536 → word_read o draft.has_read draft.regs.sp ≡ word
    → Fits g start k entry before draft (rest ++ word ∷ [])
    → Fits g start (after_move g inline (Pop register) k) entry before (moved o (Pop register) draft) rest

abbrev pub PopsFitReturned : Type 0
PopsFitReturned =
    (g : GroundView) (start : AbsState) (o : Outside) (inline : Bool) (k : AbsDraft) (entry : Entry) (before : Valuation) (draft : DraftView)
    → word_read o draft.has_read draft.regs.sp < 65536 → Fits g start k entry before draft []
    → Fits g start (after_move g inline (Pop Pc) k) entry before (moved o (Pop Pc) draft) []

abbrev pub ExchangesFit : Type 0
ExchangesFit =
    (g : GroundView) (start : AbsState) (o : Outside) (inline : Bool) (register : WordRegister) (k : AbsDraft) (entry : Entry) (before : Valuation) (draft : DraftView) (rest : List ℕ) (word : ℕ)
    → word < 65536 → word_read o draft.has_read draft.regs.sp ≡ word → k.effect.slot ≡ None
    → Fits g start k entry before draft (rest ++ word ∷ [])
    → Fits g start (after_move g inline (ExchangeStack register) k) entry before (moved o (ExchangeStack register) draft) (rest ++ draft_word register draft ∷ [])
