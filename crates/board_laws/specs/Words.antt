-- Helper: the words on the stack, byte by byte (docs/SHAPES.md, "The words on the stack").
use Rattle.std.specs.Prelude.{ℕ, ◌+◌, ◌≡◌, List, [], ◌∷◌, slice_index}
use Rattle.address_map.specs.Class.{cell_index}
use Rattle.address_map.specs.declared.cell.RamKind.TheVariants.{Work}
use Rattle.z80_alu.specs.Word.{high_of, low_of}
use Rattle.board_step.specs.State.{BoardView}

-- the byte at an address of work RAM: that of its cell
abbrev pub work_byte : BoardView → ℕ → ℕ
work_byte s at = slice_index s.work (cell_index Work at)

-- from the stack pointer to a top lie exactly these words, the low byte of each first
unfoldable pub Lays : BoardView → ℕ → ℕ → List ℕ → Type 0
Lays s sp top [] = sp ≡ top
Lays s sp top (word ∷ words) = (work_byte s sp ≡ low_of word) × (work_byte s (sp + 1) ≡ high_of word) × Lays s (sp + 2) top words

-- the words of an activation, given first pushed first, on top of those under them: the order from the stack pointer up
unfoldable pub on_top : List ℕ → List ℕ → List ℕ
on_top [] under = under
on_top (word ∷ words) under = on_top words (word ∷ under)
