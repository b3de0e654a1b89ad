-- The last element of a list, and what may come after it.
use Rattle.std.proofs.Common.{◌≡◌, ◌≤◌, ◌-◌, ◌↔◌, ℕ, zero, suc, List, [], ◌∷◌, ◌++◌, length, slice_get, Some, refl, sym, ap, subst, ◌∙◌, arith}
use Rattle.cert_form.specs.Form.{Follow}
use Rattle.cert_form.proofs.Lists.{same_cons}

-- this element is the last of the list
pub record HasLast {X : Type 0} (xs : List X) (last : X) : Type 0 where
  pub before : List X
  pub whole : xs ≡ before ++ last ∷ []

-- it comes after the others
pub split_last : {X : Type 0} (xs : List X) (last : X) → slice_get xs (length xs - 1) ≡ Some last → HasLast xs last
split_last [] last e = cc
split_last (x ∷ []) last e =
    let same : x ≡ last = cc in
    record { before = []; whole = ap (λ y. y ∷ []) same }
split_last (x ∷ y ∷ xs) last e =
    let at : length (x ∷ y ∷ xs) - 1 ≡ suc (length (y ∷ xs) - 1) = omega arith in
    let others = split_last (y ∷ xs) last (subst (λ n. slice_get (x ∷ y ∷ xs) n ≡ Some last) at e) in
    record { before = x ∷ others.before; whole = same_cons x x (y ∷ xs) (others.before ++ last ∷ []) refl others.whole }

-- an element with this relation to the last one may come after it
pub follow_push : {X : Type 0} (R : X → X → Type 0) (before : List X) (last x : X) → Follow R (before ++ last ∷ []) →
    R last x → Follow R ((before ++ last ∷ []) ++ x ∷ [])
follow_push R [] last x follow stands = (stands, tt)
follow_push R (y ∷ []) last x follow stands = (follow.0, (stands, tt))
follow_push R (y ∷ z ∷ before) last x follow stands = (follow.0, follow_push R (z ∷ before) last x follow.1 stands)

-- and no other may
pub stands_to_last : {X : Type 0} (R : X → X → Type 0) (before : List X) (last x : X) →
    Follow R ((before ++ last ∷ []) ++ x ∷ []) → R last x
stands_to_last R [] last x follow = follow.0
stands_to_last R (y ∷ []) last x follow = follow.1.0
stands_to_last R (y ∷ z ∷ before) last x follow = stands_to_last R (z ∷ before) last x follow.1

-- so an element may come after an ordered list exactly if it has this relation to the last one
pub stands_behind : {X : Type 0} (R : X → X → Type 0) (xs : List X) (last x : X) → Follow R xs →
    slice_get xs (length xs - 1) ≡ Some last → R last x ↔ Follow R (xs ++ x ∷ [])
stands_behind R xs last x follow at =
    let cut = split_last xs last at in (
      λ stands. subst (λ ys. Follow R (ys ++ x ∷ [])) (sym cut.whole)
          (follow_push R cut.before last x (subst (Follow R) cut.whole follow) stands),
      λ longer. stands_to_last R cut.before last x (subst (λ ys. Follow R (ys ++ x ∷ [])) cut.whole longer),
    )

-- if the numbers of a list do not fall, none is above the last
pub none_above : {X : Type 0} (number : X → ℕ) (before : List X) (last : X) →
    Follow (λ x y. number x ≤ number y) (before ++ last ∷ []) → (i : ℕ) (x : X) →
    slice_get (before ++ last ∷ []) i ≡ Some x → number x ≤ number last
none_above number [] last follow zero x at =
    let same : last ≡ x = cc in
    omega (arith, ap number same)
none_above number [] last follow (suc i) x at = cc
none_above number (y ∷ []) last follow zero x at =
    let same : y ≡ x = cc in
    omega (arith, ap number same, follow.0)
none_above number (y ∷ z ∷ before) last follow zero x at =
    let same : y ≡ x = cc in
    omega (arith, ap number same, follow.0, none_above number (z ∷ before) last follow.1 zero z refl)
none_above number (y ∷ []) last follow (suc i) x at = none_above number [] last tt i x at
none_above number (y ∷ z ∷ before) last follow (suc i) x at = none_above number (z ∷ before) last follow.1 i x at

-- the number of the last element is the number of those before it
get_last : {X : Type 0} (before : List X) (last : X) → slice_get (before ++ last ∷ []) (length before) ≡ Some last
get_last [] last = refl
get_last (x ∷ before) last = get_last before last

-- so a bound of the last is a bound of all
pub bounds_all : {X : Type 0} (number : X → ℕ) (xs before : List X) (last : X) (bound : ℕ) → xs ≡ before ++ last ∷ [] →
    Follow (λ x y. number x ≤ number y) xs →
    (number last ≤ bound) ↔ ((i : ℕ) (x : X) → slice_get xs i ≡ Some x → number x ≤ bound)
bounds_all number xs before last bound whole follow = (
  λ low i x at. omega (
    arith,
    low,
    none_above number before last (subst (Follow (λ x y. number x ≤ number y)) whole follow) i x
        (subst (λ ys. slice_get ys i ≡ Some x) whole at),
  ),
  λ all. all (length before) last (ap (λ ys. slice_get ys (length before)) whole ∙ get_last before last),
)

-- an element may come after a list if each of its elements has this relation to it
pub follow_all : {X : Type 0} (R : X → X → Type 0) (xs : List X) (x : X) → Follow R xs →
    ((i : ℕ) (y : X) → slice_get xs i ≡ Some y → R y x) → Follow R (xs ++ x ∷ [])
follow_all R [] x follow all = tt
follow_all R (y ∷ []) x follow all = (all zero y refl, tt)
follow_all R (y ∷ z ∷ xs) x follow all = (follow.0, follow_all R (z ∷ xs) x follow.1 (λ i w at. all (suc i) w at))

-- an element of the first part is in the whole list
pub get_in_front : {X : Type 0} (xs ys : List X) (i : ℕ) (x : X) → slice_get xs i ≡ Some x → slice_get (xs ++ ys) i ≡ Some x
get_in_front [] ys i x at = cc
get_in_front (y ∷ xs) ys zero x at = at
get_in_front (y ∷ xs) ys (suc i) x at = get_in_front xs ys i x at
