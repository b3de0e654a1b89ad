-- Lists in which one element is changed.
use Rattle.std.proofs.Common.{◌≡◌, ◌<◌, ◌≤◌, ℕ, zero, suc, List, [], ◌∷◌, length, get_or, set, slice_get, Some, refl, ap, subst, ◌∙◌, arith}
use Rattle.std.specs.List.{AllByRecursion}
use Rattle.std.proofs.lemmas.Option.{none-some, same_Some}
use Rattle.cert_form.specs.Form.{Follow}
use Rattle.cert_form.specs.Rows.{changed_at}
use Rattle.cert_form.proofs.Lists.{same_cons}

-- a number beyond the list changes nothing
pub changed_past : {X : Type 0} (change : X → X) (i : ℕ) (xs : List X) → length xs ≤ i → changed_at change i xs ≡ xs
changed_past change i [] past = refl
changed_past change zero (x ∷ xs) past = absurd (omega (arith, past))
changed_past change (suc i) (x ∷ xs) past = same_cons x x _ _ refl (changed_past change i xs (omega (arith, past)))

pub length_changed : {X : Type 0} (change : X → X) (i : ℕ) (xs : List X) → length (changed_at change i xs) ≡ length xs
length_changed change i [] = refl
length_changed change zero (x ∷ xs) = refl
length_changed change (suc i) (x ∷ xs) = ap suc (length_changed change i xs)

-- a write of the changed element changes it
pub set_changed : {X : Type 0} (change : X → X) (xs : List X) (i : ℕ) (old new : X) → i < length xs → old ≡ get_or xs i old →
    new ≡ change old → set xs i new ≡ changed_at change i xs
set_changed change [] i old new within at same = absurd (omega (arith, within))
set_changed change (x ∷ xs) zero old new within at same = same_cons new (change x) _ _ (same ∙ ap change at) refl
set_changed change (x ∷ xs) (suc i) old new within at same =
    same_cons x x _ _ refl (set_changed change xs i old new (omega (arith, within)) at same)

-- what holds of each element holds after a change that leaves it true
pub all_changed : {X : Type 0} (P : X → Type 0) (change : X → X) (i : ℕ) (xs : List X) → AllByRecursion P xs →
    ((x : X) → slice_get xs i ≡ Some x → P x → P (change x)) → AllByRecursion P (changed_at change i xs)
all_changed P change i [] all kept = tt
all_changed P change zero (x ∷ xs) all kept = (kept x refl all.0, all.1)
all_changed P change (suc i) (x ∷ xs) all kept = (all.0, all_changed P change i xs all.1 kept)

-- and then it holds of the changed one
pub at_changed : {X : Type 0} (P : X → Type 0) (change : X → X) (i : ℕ) (xs : List X) (x : X) → slice_get xs i ≡ Some x →
    AllByRecursion P (changed_at change i xs) → P (change x)
at_changed P change i [] x at all = absurd (none-some x at)
at_changed P change zero (y ∷ xs) x at all = subst (λ z. P (change z)) (same_Some y x at) all.0
at_changed P change (suc i) (y ∷ xs) x at all = at_changed P change i xs x at all.1

-- a change that keeps each relation to a neighbour keeps the order
pub follow_changed : {X : Type 0} (R : X → X → Type 0) (change : X → X) → ((x y : X) → R x y → R (change x) y) →
    ((x y : X) → R x y → R x (change y)) → (i : ℕ) (xs : List X) → Follow R xs → Follow R (changed_at change i xs)
follow_changed R change before after i [] follow = tt
follow_changed R change before after zero (x ∷ []) follow = tt
follow_changed R change before after (suc i) (x ∷ []) follow = tt
follow_changed R change before after zero (x ∷ y ∷ xs) follow = (before x y follow.0, follow.1)
follow_changed R change before after (suc zero) (x ∷ y ∷ xs) follow =
    (after x y follow.0, follow_changed R change before after zero (y ∷ xs) follow.1)
follow_changed R change before after (suc (suc i)) (x ∷ y ∷ xs) follow =
    (follow.0, follow_changed R change before after (suc i) (y ∷ xs) follow.1)
