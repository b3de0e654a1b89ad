-- The lines of an NMI routine (docs/PROGRAM.md, "A run's lines").
use Rattle.std.specs.Prelude.{ℕ, List, [], ◌∷◌, ◌++◌, codes}
use Rattle.std.specs.Fmt.{decimal}
use Rattle.std.specs.List.{join_with_byte}
use Rattle.texts.specs.Numbers.{hex4}

-- fields as a line: separated by single spaces, with a line feed at the end
abbrev pub line_of : List (List ℕ) → List ℕ
line_of fields = join_with_byte 32 fields ++ 10 ∷ []

-- an acceptance: the number of its event, and the address that it interrupted
unfoldable pub acceptance_line : ℕ → ℕ → List ℕ
acceptance_line number at = line_of (codes "nmi" ∷ decimal number ∷ hex4 at ∷ [])

-- an end: the number of its event, and the T-states from the acceptance to it
unfoldable pub return_line : ℕ → ℕ → List ℕ
return_line number spent = line_of (codes "end" ∷ decimal number ∷ decimal spent ∷ [])
