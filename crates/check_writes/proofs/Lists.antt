-- What holds of the elements of a list, and of its first ones.
use Rattle.std.proofs.Common.{◌≡◌, ◌+◌, ◌<◌, ◌↔◌, ◌∷◌, ℕ, Bool, true, false, not, List, drop, get_or, length, refl, sym, ap, ◌∙◌}
use Rattle.std.proofs.lemmas.List.{at_drop_more}

-- the negation of a test decides the negation of what the test decides
pub not_true : (b : Bool) (P : Type 0) → ((b ≡ true) ↔ P) → ((not b ≡ true) ↔ (P → ⊥))
not_true true P e = ((λ h. cc), λ none. absurd (none (e.0 refl)))
not_true false P e = ((λ h p. let t = e.1 p in cc), λ none. refl)

-- what is left of a list is its next element and what is left then
pub next_left : {X : Type 0} (xs : List X) (n : ℕ) (x : X) → n < length xs → x ≡ get_or xs n x → drop n xs ≡ x ∷ drop (n + 1) xs
next_left {X} xs n x within is =
    at_drop_more (λ (ys : List X). ys) xs n x within ∙ ap (λ (y : X). y ∷ drop (n + 1) xs) (sym is)
