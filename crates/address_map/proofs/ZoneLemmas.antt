-- Lists of zones: membership, how many pass a test, and the first that does.
use Rattle.std.proofs.Common.{◌≡◌, ◌≤◌, ◌<◌, ◌+◌, ℕ, suc, Bool, true, false, ◌⊎◌, inl, inr, List, [], ◌∷◌, length, get_or, drop, refl, sym, ◌∙◌, ap, subst, arith, add-one, drop-cons}
use Rattle.std.proofs.Math.Bool.{cond}
use Rattle.std.specs.List.{count_by, list_any, list_all}
use Rattle.std.proofs.lemmas.List.Sums.{sum_by-cons}
use Rattle.std.proofs.lemmas.Bool.{cases_Bool, and_parts, or_cases, or_left, or_right}
use Rattle.address_map.specs.Zone.{first_zone, no_zone}
use Rattle.address_map.specs.declared.zone.Zone.{Zone}

-- a zone is a member of the list
abbrev pub In : Zone → List Zone → Type 0
In z [] = ⊥
In z (x ∷ xs) = (x ≡ z) ⊎ In z xs

pub count-yes : (p : Zone → Bool) (x : Zone) (xs : List Zone) → p x ≡ true → count_by p (x ∷ xs) ≡ suc (count_by p xs)
count-yes p x xs t =
    let e = sum_by-cons (λ y. cond (p y) 1 0) x xs in
    let one : cond (p x) 1 0 ≡ 1 = rw t refl in
    let f : count_by p (x ∷ xs) ≡ 1 + count_by p xs = e ∙ ap (λ n. n + count_by p xs) one in
    f ∙ omega arith

pub count-no : (p : Zone → Bool) (x : Zone) (xs : List Zone) → p x ≡ false → count_by p (x ∷ xs) ≡ count_by p xs
count-no p x xs t =
    let e = sum_by-cons (λ y. cond (p y) 1 0) x xs in
    let none : cond (p x) 1 0 ≡ 0 = rw t refl in
    let f : count_by p (x ∷ xs) ≡ 0 + count_by p xs = e ∙ ap (λ n. n + count_by p xs) none in
    f ∙ omega arith

pub count-some : (p : Zone → Bool) (xs : List Zone) (z : Zone) → In z xs → p z ≡ true → 1 ≤ count_by p xs
count-some p [] z i e = absurd i
count-some p (x ∷ xs) z i e = elim (cases_Bool (p x)) [
  | inl t ↦ omega (arith, count-yes p x xs t)
  | inr f ↦ elim i [
    | inl same ↦ let e' : p x ≡ true = rw same e in absurd (cc)
    | inr later ↦ omega (arith, count-no p x xs f, count-some p xs z later e)
  ]
]

-- if at most one zone passes, the first that passes is it
pub first_zone-only : (p : Zone → Bool) (zs : List Zone) (z : Zone) → count_by p zs ≤ 1 → In z zs → p z ≡ true → first_zone p zs ≡ z
first_zone-only p [] z h i e = absurd i
first_zone-only p (x ∷ xs) z h i e = elim (cases_Bool (p x)) [
  | inl t ↦ elim i [
    | inl same ↦ rw t same
    | inr later ↦ absurd (omega (arith, count-yes p x xs t, count-some p xs z later e))
  ]
  | inr f ↦ elim i [
    | inl same ↦ let e' : p x ≡ true = rw same e in absurd (cc)
    | inr later ↦ rw f (first_zone-only p xs z (omega (arith, count-no p x xs f)) later e)
  ]
]

-- if some zone passes, the first that passes is in the list and passes
pub first_zone-in : (p : Zone → Bool) (zs : List Zone) → 1 ≤ count_by p zs → In (first_zone p zs) zs
first_zone-in p [] h = absurd (omega arith)
first_zone-in p (x ∷ xs) h = elim (cases_Bool (p x)) [
  | inl t ↦ let e : x ≡ first_zone p (x ∷ xs) = rw t refl in inl e
  | inr f ↦
      let e : first_zone p xs ≡ first_zone p (x ∷ xs) = rw f refl in
      inr (subst (λ z. In z xs) e (first_zone-in p xs (omega (arith, count-no p x xs f))))
]

pub first_zone-passes : (p : Zone → Bool) (zs : List Zone) → 1 ≤ count_by p zs → p (first_zone p zs) ≡ true
first_zone-passes p [] h = absurd (omega arith)
first_zone-passes p (x ∷ xs) h = elim (cases_Bool (p x)) [
  | inl t ↦ let e : x ≡ first_zone p (x ∷ xs) = rw t refl in subst (λ z. p z ≡ true) e t
  | inr f ↦
      let e : first_zone p xs ≡ first_zone p (x ∷ xs) = rw f refl in
      subst (λ z. p z ≡ true) e (first_zone-passes p xs (omega (arith, count-no p x xs f)))
]

-- if no zone passes, the result is the empty zone
pub first_zone-none : (p : Zone → Bool) (zs : List Zone) → ((z : Zone) → In z zs → p z ≡ false) → first_zone p zs ≡ no_zone
first_zone-none p [] h = refl
first_zone-none p (x ∷ xs) h =
    let f = h x (inl refl) in
    rw f (first_zone-none p xs (λ z i. h z (inr i)))

-- the search for the first zone, one step further
pub first_zone-further : (p : Zone → Bool) (zs : List Zone) (i : ℕ) (d : Zone) → i < length zs → p (get_or zs i d) ≡ false → first_zone p (drop i zs) ≡ first_zone p (drop (i + 1) zs)
first_zone-further p zs i d h f =
    let e : drop i zs ≡ get_or zs i d ∷ drop (i + 1) zs = rw (add-one) (drop-cons zs i d h) in
    rw e (rw f refl)

pub first_zone-here : (p : Zone → Bool) (zs : List Zone) (i : ℕ) (d : Zone) → i < length zs → p (get_or zs i d) ≡ true → first_zone p (drop i zs) ≡ get_or zs i d
first_zone-here p zs i d h t =
    let e : drop i zs ≡ get_or zs i d ∷ drop (i + 1) zs = rw (add-one) (drop-cons zs i d h) in
    rw e (rw t refl)

pub In-all : (p : Zone → Bool) (zs : List Zone) (z : Zone) → list_all p zs ≡ true → In z zs → p z ≡ true
In-all p [] z h i = absurd i
In-all p (x ∷ xs) z h i = elim i [
  | inl same ↦ subst (λ y. p y ≡ true) same (and_parts _ _ h).0
  | inr later ↦ In-all p xs z (and_parts _ _ h).1 later
]

pub In-any : (p : Zone → Bool) (zs : List Zone) (z : Zone) → In z zs → p z ≡ true → list_any p zs ≡ true
In-any p [] z i e = absurd i
In-any p (x ∷ xs) z i e = elim i [
  | inl same ↦ or_left _ _ (subst (λ y. p y ≡ true) (sym same) e)
  | inr later ↦ or_right _ _ (In-any p xs z later e)
]

pub In-from-any : (p : Zone → Bool) (zs : List Zone) → list_any p zs ≡ true → (z : Zone) × In z zs × (p z ≡ true)
In-from-any p [] h = cc
In-from-any p (x ∷ xs) h = elim (or_cases (p x) (list_any p xs) h) [
  | inl t ↦ (x, inl refl, t)
  | inr later ↦ let r = In-from-any p xs later in (r.0, inr r.1, r.2)
]
