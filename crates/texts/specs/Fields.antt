-- The parts of a text, such as the fields of a line, and how they are taken.
use Rattle.std.specs.Prelude.{ℕ, ◌≡◌, ◌≢◌, ◌==◌, Bool, true, false, List, [], ◌∷◌, ◌++◌, Option, Some, None}
use Rattle.std.specs.List.{slice_split}
use denote.Ref.{Bor}

-- the parts of a text, separated by a mark
abbrev pub parts_of : ℕ → List ℕ → List (List ℕ)
parts_of mark text = slice_split (λ b. b == mark) text

-- the fields of a line, separated by single spaces
abbrev pub fields_in : List ℕ → List (List ℕ)
fields_in line = parts_of 32 line

-- the parts that are left: none, or those of the text that is left
abbrev pub fields_left : ℕ → Option (Bor (List ℕ)) → List (List ℕ)
fields_left mark None = []
fields_left mark (Some text) = parts_of mark text.now

-- the next field was taken, or none is left
abbrev pub TakesField : List (List ℕ) → Option (Bor (List ℕ)) → List (List ℕ) → Type 0
TakesField old (Some field) new = old ≡ field.now ∷ new
TakesField old None new = (old ≡ []) × (new ≡ [])

-- this field was taken, or it is not the next one
abbrev pub TakesWord : List ℕ → List (List ℕ) → Bool → List (List ℕ) → Type 0
TakesWord word old true new = old ≡ word ∷ new
TakesWord word old false new = (rest : List (List ℕ)) → old ≢ word ∷ rest
