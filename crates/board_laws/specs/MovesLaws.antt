-- What the laws of src/moves.rt say: each is the contract of the function with its name.
use Rattle.std.specs.Prelude.{ℕ, ◌+◌, List, ◌∷◌, length, ◌≡◌, false, Bool, true, []}
use Rattle.address_map.specs.AddressMap.{MapView}
use Rattle.address_map.specs.declared.region.Region.{Region}
use Rattle.z80_draft.specs.Draft.{DraftView, moved, draft_word, word_read, drafted}
use Rattle.z80_draft.specs.Outside.{Outside}
use Rattle.z80_moves.specs.declared.moves.Move.TheVariants.{Push, Pop, ExchangeStack}
use Rattle.z80_moves.specs.declared.registers.WordRegister.{WordRegister}
use Rattle.board_step.specs.State.{BoardView}
use Rattle.board_laws.specs.Board.{LeavesWords, HasWords}
use Rattle.board_laws.specs.Region.{HasRoom, IsStackRegion, Misses, used}
use Rattle.board_laws.specs.Stackless.{is_sp, writes_sp, are_stackless}
use Rattle.board_step.specs.Context.{ContextView}
use Rattle.board_step.specs.Reads.{outside_of}
use Rattle.board_laws.specs.Words.{Lays}
use Rattle.z80_draft.specs.Room.{accesses_in}
use Rattle.z80_moves.specs.declared.moves.Move.{Move}

abbrev pub PushMovesLayWords : Type 0
PushMovesLayWords =
    (map : MapView) (region : Region) (o : Outside) (register : WordRegister) (draft : DraftView) (s : BoardView) (words : List ℕ)
    → HasRoom region (1 + length words) → LeavesWords map region draft s words
    → LeavesWords map region (moved o (Push register) draft) s (draft_word register draft ∷ words)

abbrev pub PopMovesTakeWordsLeaves : Type 0
PopMovesTakeWordsLeaves =
    (map : MapView) (region : Region) (o : Outside) (register : WordRegister) (draft : DraftView) (s : BoardView) (word : ℕ) (words : List ℕ)
    → is_sp register ≡ false → LeavesWords map region draft s (word ∷ words)
    → LeavesWords map region (moved o (Pop register) draft) s words

abbrev pub PopMovesTakeWordsReads : Type 0
PopMovesTakeWordsReads =
    (c : ContextView) (region : Region) (is_later : Bool) (sp word : ℕ) (words : List ℕ)
    → IsStackRegion c.hardware.map region → HasRoom region (1 + length words)
    → Lays c.state sp region.top (word ∷ words) → word_read (outside_of c) is_later sp ≡ word

abbrev pub PopMovesTakeWordsGives : Type 0
PopMovesTakeWordsGives =
    (c : ContextView) (region : Region) (register : WordRegister) (draft : DraftView) (word : ℕ) (words : List ℕ)
    → IsStackRegion c.hardware.map region → HasRoom region (1 + length words)
    → Lays c.state draft.regs.sp region.top (word ∷ words)
    → draft_word register (moved (outside_of c) (Pop register) draft) ≡ word

abbrev pub ExchangeMovesSwapWordsLeaves : Type 0
ExchangeMovesSwapWordsLeaves =
    (map : MapView) (region : Region) (o : Outside) (register : WordRegister) (draft : DraftView) (s : BoardView) (old : ℕ) (words : List ℕ)
    → is_sp register ≡ false → LeavesWords map region draft s (old ∷ words)
    → LeavesWords map region (moved o (ExchangeStack register) draft) s (draft_word register draft ∷ words)

abbrev pub ExchangeMovesSwapWordsGives : Type 0
ExchangeMovesSwapWordsGives =
    (c : ContextView) (region : Region) (register : WordRegister) (draft : DraftView) (word : ℕ) (words : List ℕ)
    → IsStackRegion c.hardware.map region → HasRoom region (1 + length words)
    → Lays c.state draft.regs.sp region.top (word ∷ words)
    → draft_word register (moved (outside_of c) (ExchangeStack register) draft) ≡ word

abbrev pub StacklessMovesKeepSpAccesses : Type 0
StacklessMovesKeepSpAccesses =
    (o : Outside) (moves : List Move) (draft : DraftView) → accesses_in moves ≡ 0
    → (drafted o moves draft).stack ≡ draft.stack

abbrev pub StacklessMovesKeepSpSp : Type 0
StacklessMovesKeepSpSp =
    (o : Outside) (move : Move) (draft : DraftView) → writes_sp move ≡ false
    → (moved o move draft).regs.sp ≡ draft.regs.sp

abbrev pub StacklessMovesKeepSpStackless : Type 0
StacklessMovesKeepSpStackless =
    (o : Outside) (moves : List Move) (draft : DraftView) → are_stackless moves ≡ true
    → ((drafted o moves draft).stack ≡ draft.stack) × ((drafted o moves draft).regs.sp ≡ draft.regs.sp)

abbrev pub DraftsKeepWordsAside : Type 0
DraftsKeepWordsAside =
    (map : MapView) (region : Region) (draft : DraftView) (s : BoardView) (words : List ℕ) → draft.stack ≡ []
    → draft.regs.sp ≡ s.regs.sp → Misses map (used region s) draft.writes → HasWords map region s words
    → LeavesWords map region draft s words

abbrev pub DraftsKeepWordsAlike : Type 0
DraftsKeepWordsAlike =
    (map : MapView) (region : Region) (old new : DraftView) (s : BoardView) (words : List ℕ) → new.stack ≡ old.stack
    → new.writes ≡ old.writes → new.regs.sp ≡ old.regs.sp → LeavesWords map region old s words
    → LeavesWords map region new s words
