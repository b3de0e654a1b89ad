-- What the laws of src/words.rt say: each is the contract of the function with its name.
use Rattle.std.specs.Prelude.{ℕ, ◌+◌, ◌*◌, ◌≡◌, List, length, ◌<◌, ◌≤◌, [], ◌∷◌, ◌++◌}
use Rattle.board_step.specs.State.{BoardView}
use Rattle.board_laws.specs.Words.{Lays, work_byte, on_top}
use Rattle.address_map.specs.AddressMap.{MapView}
use Rattle.address_map.specs.declared.region.Region.{Region}
use Rattle.board_laws.specs.Board.{HasWords}

abbrev pub WordsAreTheirBytesSize : Type 0
WordsAreTheirBytesSize =
    (s : BoardView) (sp top : ℕ) (words : List ℕ) → Lays s sp top words → sp + 2 * length words ≡ top

abbrev pub WordsAreTheirBytesOne : Type 0
WordsAreTheirBytesOne =
    (s : BoardView) (sp top : ℕ) (words others : List ℕ) → Lays s sp top words → Lays s sp top others → words ≡ others

abbrev pub WordsAreTheirBytesKept : Type 0
WordsAreTheirBytesKept =
    (old new : BoardView) (sp top : ℕ) (words : List ℕ)
    → ((at : ℕ) → sp ≤ at → at < top → work_byte new at ≡ work_byte old at) → Lays old sp top words
    → Lays new sp top words

abbrev pub WordsAreTheirBytesSame : Type 0
WordsAreTheirBytesSame =
    (old new : BoardView) (sp top : ℕ) (words : List ℕ) → Lays old sp top words → Lays new sp top words → (at : ℕ)
    → sp ≤ at → at < top → work_byte new at ≡ work_byte old at

abbrev pub WordsPlaceSp : Type 0
WordsPlaceSp =
    (map : MapView) (region : Region) (s : BoardView) (words : List ℕ) → HasWords map region s words
    → (s.regs.sp + 2 * length words ≡ region.top) × (region.low ≤ s.regs.sp)

abbrev pub WordsAreOrderedPushed : Type 0
WordsAreOrderedPushed =
    (words : List ℕ) (word : ℕ) (under : List ℕ) → on_top (words ++ word ∷ []) under ≡ word ∷ on_top words under

abbrev pub WordsAreOrderedUnder : Type 0
WordsAreOrderedUnder =
    (words under more : List ℕ) → on_top words (under ++ more) ≡ on_top words under ++ more
