-- Lines that are written for the elements of a list.
use Rattle.std.specs.Prelude.{ℕ, ◌≡◌, List}
use Rattle.std.specs.Borrow.{Bor}
use Rattle.std.specs.Fn.{Shared}

-- each line that a call of the closure gives is the text of its element
abbrev pub GivesTexts : {F X : Type 0} → Shared F (Bor X × Unit {0}) (List ℕ) → F → (X → List ℕ) → Type 0
GivesTexts {F} {X} g line_of text = (x : Bor X) (line : List ℕ) → g.post line_of (x, tt) line → line ≡ text x.now
