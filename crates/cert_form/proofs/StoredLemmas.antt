-- Lists that get one more element, behind a first one.
use Rattle.std.proofs.Common.{◌≡◌, ◌<◌, ℕ, suc, List, [], ◌∷◌, ◌++◌, ◌+◌, length, slice_get, Some, refl, sym, ap, subst, ◌∙◌, arith}
use Rattle.cert_form.proofs.ShapeLemmas.{get_front}

-- the element behind others
get_behind : {X : Type 0} (xs : List X) (x : X) → slice_get (xs ++ x ∷ []) (length xs) ≡ Some x
get_behind [] x = refl
get_behind (y ∷ xs) x = get_behind xs x

-- it has the next number
pub stored_behind : {X : Type 0} (first : X) (xs ys : List X) (x : X) (n : ℕ) → ys ≡ xs ++ x ∷ [] → n ≡ length xs + 1 →
    slice_get (first ∷ ys) n ≡ Some x
stored_behind first xs ys x n are is =
    let next : n ≡ suc (length xs) = omega (arith, is) in
    subst (λ k. slice_get (first ∷ ys) k ≡ Some x) (sym next) (ap (λ zs. slice_get zs (length xs)) are ∙ get_behind xs x)

-- the others keep their numbers
pub kept_before : {X : Type 0} (first : X) (xs ys : List X) (x : X) → ys ≡ xs ++ x ∷ [] → (n : ℕ) → n < length (first ∷ xs) →
    slice_get (first ∷ ys) n ≡ slice_get (first ∷ xs) n
kept_before first xs ys x are n low = ap (λ zs. slice_get (first ∷ zs) n) are ∙ get_front (first ∷ xs) (x ∷ []) n low
