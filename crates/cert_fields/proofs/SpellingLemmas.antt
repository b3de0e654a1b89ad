-- What is added to a line, piece by piece.
use Rattle.std.proofs.Common.{◌≡◌, ◌<◌, ◌≤◌, ◌+◌, ◌*◌, ℕ, List, [], ◌∷◌, ◌++◌, length, map, take, get_or, refl, sym, ap, ◌∙◌, arith, append_assoc}
use Rattle.std.proofs.lemmas.List.{map-append, take_more}
use Rattle.std.specs.List.{join_with_byte}

-- one more text after a comma
pub join_more : (x : List ℕ) (xs : List (List ℕ)) (y : List ℕ) → join_with_byte 44 (x ∷ (xs ++ y ∷ [])) ≡ join_with_byte 44 (x ∷ xs) ++ 44 ∷ y
join_more x [] y = refl
join_more x (z ∷ xs) y = ap (λ rest. x ++ 44 ∷ rest) (join_more z xs y) ∙ sym (append_assoc x (44 ∷ join_with_byte 44 (z ∷ xs)) (44 ∷ y))

-- the first of some texts and `i` others were added, with commas between them
pub record IsSpelled {X : Type 0} (text : X → List ℕ) (most : ℕ) (old line : List ℕ) (all others : List X) (i : ℕ) : Type 0 where
  pub first : X
  pub whole : all ≡ first ∷ others
  pub made : line ≡ old ++ join_with_byte 44 (text first ∷ map text (take i others))
  pub grown : length line ≤ length old + most + (most + 1) * i

module _ {X : Type 0} (text : X → List ℕ) (most : ℕ) (old : List ℕ) (all others : List X) where
  module _ (line : List ℕ) (i : ℕ) (spelled : IsSpelled text most old line all others i) where
    pub spelled_more : (next : X) (comma after : List ℕ) → i < length others → next ≡ get_or others i next → comma ≡ line ++ 44 ∷ [] → after ≡ comma ++ text next → length comma ≡ length line + 1 → length after ≤ length comma + most → IsSpelled text most old after all others (i + 1)
    spelled_more next comma after within there parted made one grown =
        let so_far = spelled.grown in
        let front : List ℕ = join_with_byte 44 (text spelled.first ∷ map text (take i others)) in
        let more : take (i + 1) others ≡ take i others ++ next ∷ [] = take_more others i next within ∙ ap (λ x. take i others ++ x ∷ []) (sym there) in
        let texts : map text (take (i + 1) others) ≡ map text (take i others) ++ text next ∷ [] = ap (λ xs. map text xs) more ∙ map-append text (take i others) (next ∷ []) in
        record {
          first = spelled.first;
          whole = spelled.whole;
          made =
              made ∙ ap (λ l. l ++ text next) (parted ∙ ap (λ l. l ++ 44 ∷ []) spelled.made)
              ∙ append_assoc (old ++ front) (44 ∷ []) (text next) ∙ append_assoc old front (44 ∷ text next)
              ∙ ap (λ l. old ++ l) (sym (join_more (text spelled.first) (map text (take i others)) (text next)) ∙ ap (λ ts. join_with_byte 44 (text spelled.first ∷ ts)) (sym texts));
          grown = omega arith;
        }
