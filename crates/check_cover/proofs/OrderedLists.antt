-- Binary search in an ordered list: the first element with a number.
use Rattle.std.proofs.Common.{◌≡◌, ◌<◌, ◌≤◌, ◌==◌, true, false, nat_lt, inl, inr, ℕ, zero, suc, List, [], ◌∷◌, length, get_or, slice_get, Some, subst, arith}
use Rattle.std.specs.List.Sorted.{IsNonDecreasingBy, IsPartitionPoint}
use Rattle.std.proofs.lemmas.Bool.{cases_lt, eqb-true, eqb-false, ltb-true, ltb-false}
use Rattle.std.proofs.lemmas.Option.{get_or_from_slice_get, slice_get_within}
use Rattle.cert_form.specs.Form.{Follow}

-- elements whose numbers rise from one to the next are in order
pub in_order : {X : Type 0} (key : X → ℕ) (xs : List X) → Follow (λ a b. key a ≤ key b) xs → IsNonDecreasingBy key xs
in_order {X} key [] rise i j d order within = absurd (omega (arith, within))
in_order {X} key (x ∷ xs) rise zero zero d order within = omega arith
in_order {X} key (x ∷ xs) rise zero (suc j) d order within = least x xs rise j d (omega (arith, within))
  where
    least : (y : X) (ys : List X) → Follow (λ a b. key a ≤ key b) (y ∷ ys) → (k : ℕ) (e : X) → k < length ys → key y ≤ key (get_or ys k e)
    least y [] up k e low = absurd (omega (arith, low))
    least y (z ∷ zs) up zero e low = up.0
    least y (z ∷ zs) up (suc k) e low = omega (arith, up.0, least z zs up.1 k e (omega (arith, low)))
in_order {X} key (x ∷ xs) rise (suc i) zero d order within = absurd (omega (arith, order))
in_order {X} key (x ∷ xs) rise (suc i) (suc j) d order within =
    in_order key xs (tail x xs rise) i j d (omega (arith, order)) (omega (arith, within))
  where
    tail : (y : X) (ys : List X) → Follow (λ a b. key a ≤ key b) (y ∷ ys) → Follow (λ a b. key a ≤ key b) ys
    tail y [] up = tt
    tail y (z ∷ zs) up = up.1

-- a relation between neighbours implies a weaker one
pub follow_weaker : {X : Type 0} (R S : X → X → Type 0) → ((a b : X) → R a b → S a b) → (xs : List X) → Follow R xs → Follow S xs
follow_weaker R S weaker [] up = tt
follow_weaker R S weaker (x ∷ []) up = tt
follow_weaker R S weaker (x ∷ y ∷ xs) up = (weaker x y up.0, follow_weaker R S weaker (y ∷ xs) up.1)

-- exactly the first `count` elements have lesser numbers
abbrev pub Parted : {X : Type 0} → (X → ℕ) → ℕ → List X → ℕ → Type 0
Parted key number xs count = IsPartitionPoint (λ x. nat_lt (key x) number ≡ true) (λ x. nat_lt (key x) number ≡ false) xs count

-- no element has the number
abbrev pub NoneHas : {X : Type 0} → (X → ℕ) → ℕ → List X → Type 0
NoneHas {X} key number xs = (k : ℕ) (x : X) → slice_get xs k ≡ Some x → key x ≡ number → ⊥

-- this is the first element that has the number
pub record IsFirst {X : Type 0} (key : X → ℕ) (number : ℕ) (xs : List X) (place : ℕ) (first : X) : Type 0 where
  pub at : slice_get xs place ≡ Some first
  pub has : key first ≡ number
  pub before : (k : ℕ) (x : X) → k < place → slice_get xs k ≡ Some x → key x ≡ number → ⊥

-- an element before the others has a lesser number
lesser : {X : Type 0} (key : X → ℕ) (number : ℕ) (xs : List X) (place k : ℕ) (x : X) → Parted key number xs place → k < place →
    slice_get xs k ≡ Some x → key x < number
lesser key number xs place k x parted before at =
    subst (λ y. key y < number) (get_or_from_slice_get xs k x x at) (ltb-true _ _ (parted.0 k x (omega arith) before))

-- an element from there on has no lesser number
not_lesser : {X : Type 0} (key : X → ℕ) (number : ℕ) (xs : List X) (place k : ℕ) (x : X) → Parted key number xs place → place ≤ k →
    slice_get xs k ≡ Some x → number ≤ key x
not_lesser key number xs place k x parted behind at =
    subst (λ y. number ≤ key y) (get_or_from_slice_get xs k x x at) (ltb-false _ _ (parted.1 k x behind (slice_get_within xs k x at)))

-- if no element comes after those with lesser numbers, none has the number
pub none_behind : {X : Type 0} (key : X → ℕ) (number : ℕ) (xs : List X) (place : ℕ) → Parted key number xs place → length xs ≤ place →
    NoneHas key number xs
none_behind key number xs place parted behind k x at has =
    let within = slice_get_within xs k x at in
    let less = lesser key number xs place k x parted (omega (arith, within, behind)) at in
    omega (arith, less, has)

-- if the next element after those with lesser numbers has another number, none has it
pub none_has : {X : Type 0} (key : X → ℕ) (number : ℕ) (xs : List X) (place : ℕ) (there : X) → IsNonDecreasingBy key xs → Parted key number xs place →
    slice_get xs place ≡ Some there → (key there == number) ≡ false → NoneHas key number xs
none_has key number xs place there order parted is other k x at has =
    elim (cases_lt k place) [
      | inl before ↦ let less = lesser key number xs place k x parted before at in omega (arith, less, has)
      | inr behind ↦
          let within = slice_get_within xs k x at in
          let upto : key there ≤ key x =
          subst (λ y. key y ≤ key x) (get_or_from_slice_get xs place there there is)
          (subst (λ y. key (get_or xs place there) ≤ key y) (get_or_from_slice_get xs k x there at) (order place k there behind within)) in
          let above = not_lesser key number xs place place there parted (omega arith) is in
          eqb-false _ _ other (omega (arith, upto, above, has))
    ]

-- if it has the number, it is the first that has it
pub is_first : {X : Type 0} (key : X → ℕ) (number : ℕ) (xs : List X) (place : ℕ) (there : X) → Parted key number xs place →
    slice_get xs place ≡ Some there → (key there == number) ≡ true → IsFirst key number xs place there
is_first key number xs place there parted is same = record {
  at = is;
  has = eqb-true _ _ same;
  before = λ k x before at has. let less = lesser key number xs place k x parted before at in omega (arith, less, has);
}
