-- What is added to a line, and fields that are joined by spaces.
use Rattle.std.proofs.Common.{◌≡◌, ◌<◌, ℕ, List, [], ◌∷◌, ◌++◌, codes, length, refl, sym, ap, ◌∙◌, arith, append_assoc}
use Rattle.std.specs.List.{join_with_byte}
use Rattle.cert_lines.specs.Row.{fields_of_row, last_fields, pair_fields, place_fields, place_of}
use Rattle.cert_lines.specs.declared.row.Row.{Row}
use Rattle.cert_lines.specs.declared.version.Version.{Version}

-- four texts that are added one after another, with spaces before the last two, and a line feed at the end
pub texts_made : (head place pairs last begun placed parted paired ended filled fed : List ℕ) → begun ≡ head →
    placed ≡ begun ++ place → parted ≡ placed ++ 32 ∷ [] → paired ≡ parted ++ pairs → ended ≡ paired ++ 32 ∷ [] →
    filled ≡ ended ++ last → fed ≡ filled ++ 10 ∷ [] → fed ≡ head ++ (place ++ 32 ∷ (pairs ++ 32 ∷ (last ++ 10 ∷ [])))
texts_made head place pairs last begun placed parted paired ended filled fed e0 e1 e2 e3 e4 e5 e6 =
    simp (e6, e5, e4, e3, e2, e1, e0, append_assoc)

-- fields of two lists with spaces between them
join_parts : (xs ys : List (List ℕ)) → 0 < length xs → 0 < length ys →
    join_with_byte 32 (xs ++ ys) ≡ join_with_byte 32 xs ++ 32 ∷ join_with_byte 32 ys
join_parts [] ys some more = absurd (omega (arith, some))
join_parts (x ∷ xs) [] some more = absurd (omega (arith, more))
join_parts (x ∷ []) (y ∷ ys) some more = refl
join_parts (x ∷ z ∷ xs) (y ∷ ys) some more =
    ap (λ t. x ++ 32 ∷ t) (join_parts (z ∷ xs) (y ∷ ys) (omega arith) (omega arith))
    ∙ sym (append_assoc x (32 ∷ join_with_byte 32 (z ∷ xs)) (32 ∷ join_with_byte 32 (y ∷ ys)))

-- the line of a row, part by part
pub row_text : (v : Version) (row : Row) →
    codes "row " ++ (join_with_byte 32 (place_fields v (place_of row)) ++ 32 ∷
    (join_with_byte 32 (pair_fields row.state.pairs) ++ 32 ∷ (join_with_byte 32 (last_fields v row) ++ 10 ∷ []))) ≡
    join_with_byte 32 (codes "row" ∷ fields_of_row v row) ++ 10 ∷ []
unfolding fields_of_row
row_text v row =
    let places = place_fields v (place_of row) in
    let pairs = pair_fields row.state.pairs in
    let place : List ℕ = join_with_byte 32 places in
    let pair : List ℕ = join_with_byte 32 pairs in
    let last : List ℕ = join_with_byte 32 (last_fields v row) in
    let whole = join_parts places (pairs ++ last_fields v row) (omega arith) (omega arith)
    ∙ ap (λ t. place ++ 32 ∷ t) (join_parts pairs (last_fields v row) (omega arith) (omega arith)) in
    ap (λ t. codes "row " ++ t) (ap (λ t. place ++ 32 ∷ t) (sym (append_assoc pair (32 ∷ last) (10 ∷ [])))
    ∙ sym (append_assoc place (32 ∷ (pair ++ 32 ∷ last)) (10 ∷ [])) ∙ ap (λ t. t ++ 10 ∷ []) (sym whole))
