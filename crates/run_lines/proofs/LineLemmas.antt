-- Lines, from the pieces that they are made of.
use Rattle.std.proofs.Common.{◌≡◌, ◌∷◌, ℕ, List, [], ◌++◌, codes, flat_map, sym, ap, ◌∙◌, append_assoc, decimal}
use Rattle.std.proofs.lemmas.List.{append-nil}
use Rattle.std.specs.List.{join_with_byte}
use Rattle.texts.specs.Numbers.{hex4}
use Rattle.run_lines.specs.Lines.{acceptance_line, return_line, line_of}

-- fields that were added one after another, each after a space
abbrev added : List ℕ → List (List ℕ) → List ℕ
added text [] = text
added text (field ∷ fields) = added (text ++ 32 ∷ field) fields

abbrev spaced : List (List ℕ) → List ℕ
spaced fields = flat_map (λ field. 32 ∷ field) fields

added_is : (text : List ℕ) (fields : List (List ℕ)) → added text fields ≡ text ++ spaced fields
added_is text [] = sym (append-nil text)
added_is text (field ∷ fields) = added_is (text ++ 32 ∷ field) fields ∙ append_assoc text (32 ∷ field) (spaced fields)

joined : (word : List ℕ) (fields : List (List ℕ)) → word ++ spaced fields ≡ join_with_byte 32 (word ∷ fields)
joined word [] = append-nil word
joined word (field ∷ fields) = ap (λ (rest : List ℕ). word ++ 32 ∷ rest) (joined field fields)

-- a line after a text
pub line_added : (old word : List ℕ) (fields : List (List ℕ)) → added (old ++ word) fields ++ 10 ∷ [] ≡ old ++ line_of (word ∷ fields)
line_added old word fields =
    ap (λ (text : List ℕ). text ++ 10 ∷ []) (added_is (old ++ word) fields ∙ append_assoc old word (spaced fields) ∙ ap (λ (text : List ℕ). old ++ text) (joined word fields))
    ∙ append_assoc old (join_with_byte 32 (word ∷ fields)) (10 ∷ [])

pub begin_whole : (number at : ℕ) → (((([] ++ codes "nmi") ++ 32 ∷ decimal number) ++ 32 ∷ hex4 at) ++ 10 ∷ []) ≡ acceptance_line number at
unfolding acceptance_line
begin_whole number at = line_added [] (codes "nmi") (decimal number ∷ hex4 at ∷ [])

pub end_whole : (number spent : ℕ) → (((([] ++ codes "end") ++ 32 ∷ decimal number) ++ 32 ∷ decimal spent) ++ 10 ∷ []) ≡ return_line number spent
unfolding return_line
end_whole number spent = line_added [] (codes "end") (decimal number ∷ decimal spent ∷ [])
