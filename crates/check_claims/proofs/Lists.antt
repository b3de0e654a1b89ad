-- What holds of the first elements of a list.
use Rattle.std.proofs.Common.{◌≡◌, ◌+◌, ◌<◌, ◌∙◌, inl, inr, ℕ, List, get_or, length, ap, subst, arith}
use Rattle.std.proofs.lemmas.Bool.{cases_lt}
use Rattle.std.proofs.lemmas.List.{get_or_default}

-- the property holds of one more element
pub also_of_next : {X : Type 0} (P : X → Type 0) (xs : List X) (n : ℕ) (here : X) → ((k : ℕ) (d : X) → k < n → P (get_or xs k d)) → n < length xs →
    here ≡ get_or xs n here → P here → (k : ℕ) (d : X) → k < n + 1 → P (get_or xs k d)
also_of_next P xs n here so_far within is holds k d low =
    elim (cases_lt k n) [
      | inl before ↦ so_far k d before
      | inr after ↦
          let at : n ≡ k = omega arith in
          let inside : k < length xs = omega arith in
          subst P (is ∙ ap (λ m. get_or xs m here) at ∙ get_or_default xs k here d inside) holds
    ]
