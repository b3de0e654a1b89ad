-- Entries of a map as names with values: what is found by a name, and the run of entries that have a value.
use Rattle.std.proofs.Common.{◌≡◌, ℕ, zero, suc, ◌+◌, ◌-◌, ◌≤◌, ◌==◌, nat_lt, nat_le, Bool, true, false, cond, List, [], ◌∷◌, length, map, find, filter, take, drop, slice_range, inl, inr, Some, Contains, refl, ap, sym, ◌∙◌, arith}
use Rattle.std.proofs.lemmas.Bool.{cases_Bool, cases_lt}
use Rattle.std.proofs.lemmas.Bool.Decides.{nat_tests}
use Rattle.std.specs.List.{AllWithin}
use Rattle.std.specs.List.Sorted.{IsPartitionPoint}
use Rattle.std.specs.Map.{keys_of, lookup}
use Rattle.std.specs.Option.{option_map}
use Rattle.std.proofs.lemmas.Slice.Eq.{bytes_eq-Decides}
use Rattle.std.specs.Str.{bytes_eq}
use Rattle.symbols.specs.Names.{value_of_name, names_of}

module _ {K V N : Type 0} (name : K → N) (value : V → ℕ) where
  -- an entry as a name with its value
  abbrev pub named : K × V → N × ℕ
  named e = (name e.0, value e.1)

  pub keys_of-named : (es : List (K × V)) → keys_of (map named es) ≡ map name (keys_of es)
  keys_of-named [] = refl
  keys_of-named (e ∷ es) = ap (λ ks. name e.0 ∷ ks) (keys_of-named es)

  pub lookup-named : (test : N → Bool) (es : List (K × V)) → lookup test (map named es) ≡ option_map value (lookup (λ k. test (name k)) es)
  lookup-named test [] = refl
  lookup-named test (e ∷ es) =
      elim (test (name e.0)) as (λ b. cond b (Some (value e.1)) (lookup test (map named es)) ≡ option_map value (cond b (Some e.1) (lookup (λ k. test (name k)) es)))
      [ true ↦ refl | false ↦ lookup-named test es ]

  pub filter-named : (v : ℕ) (es : List (K × V)) → filter (λ n. n.1 == v) (map named es) ≡ map named (filter (λ e. value e.1 == v) es)
  filter-named v [] = refl
  filter-named v (e ∷ es) =
      let others : List (K × V) = filter (λ e. value e.1 == v) es in
      elim (value e.1 == v) as (λ b. cond b (named e ∷ filter (λ n. n.1 == v) (map named es)) (filter (λ n. n.1 == v) (map named es)) ≡ map named (cond b (e ∷ others) others))
      [ true ↦ ap (λ ns. named e ∷ ns) (filter-named v es) | false ↦ filter-named v es ]

-- a filter keeps a run of n elements from i on, if these pass its test and no others do
pub filter-take : {X : Type 0} (p : X → Bool) (xs : List X) (i n : ℕ) → i + n ≤ length xs → AllWithin (λ x. p x ≡ false) xs 0 i → AllWithin (λ x. p x ≡ true) xs i (i + n) → AllWithin (λ x. p x ≡ false) xs (i + n) (length xs) → filter p xs ≡ take n (drop i xs)
filter-take p [] zero zero within below there above = refl
filter-take p [] zero (suc n) within below there above = absurd (omega arith)
filter-take p [] (suc i) n within below there above = absurd (omega arith)
filter-take p (x ∷ xs) zero zero within below there above =
    rw (above 0 x (omega arith) (omega arith)) (filter-take p xs 0 0 (omega arith) (λ k d l h. absurd (omega arith)) (λ k d l h. absurd (omega arith)) (λ k d l h. above (suc k) d (omega arith) (omega arith)))
filter-take p (x ∷ xs) zero (suc n) within below there above =
    rw (there 0 x (omega arith) (omega arith)) (ap (λ l. x ∷ l) (filter-take p xs 0 n (omega arith) (λ k d l h. absurd (omega arith)) (λ k d l h. there (suc k) d (omega arith) (omega arith)) (λ k d l h. above (suc k) d (omega arith) (omega arith))))
filter-take p (x ∷ xs) (suc i) n within below there above =
    rw (below 0 x (omega arith) (omega arith)) (filter-take p xs i n (omega arith) (λ k d l h. below (suc k) d (omega arith) (omega arith)) (λ k d l h. there (suc k) d (omega arith) (omega arith)) (λ k d l h. above (suc k) d (omega arith) (omega arith)))

below_is_other : (a v : ℕ) → nat_lt a v ≡ true → (a == v) ≡ false
below_is_other a v h = grind (arith, nat_tests)

between_is_same : (a v : ℕ) → nat_lt a v ≡ false → nat_le a v ≡ true → (a == v) ≡ true
between_is_same a v h l = grind (arith, nat_tests)

above_is_other : (a v : ℕ) → nat_le a v ≡ false → (a == v) ≡ false
above_is_other a v h = grind (arith, nat_tests)

below_and_above : (a v : ℕ) → nat_lt a v ≡ true → nat_le a v ≡ false → ⊥
below_and_above a v h l = grind (arith, nat_tests)

module _ {X : Type 0} (value : X → ℕ) (v : ℕ) where
  -- at i the elements below v end
  abbrev pub EndsBelow : List X → ℕ → Type 0
  EndsBelow xs i = IsPartitionPoint (λ x. nat_lt (value x) v ≡ true) (λ x. nat_lt (value x) v ≡ false) xs i

  -- at j the elements up to v end
  abbrev pub EndsUpTo : List X → ℕ → Type 0
  EndsUpTo xs j = IsPartitionPoint (λ x. nat_le (value x) v ≡ true) (λ x. nat_le (value x) v ≡ false) xs j

  pub ends_in_order : (xs : List X) (i j : ℕ) → i ≤ length xs → EndsBelow xs i → EndsUpTo xs j → i ≤ j
  ends_in_order [] i j within from to = omega arith
  ends_in_order (x ∷ xs) i j within from to =
      elim (cases_lt j i) [ inl less ↦ absurd (below_and_above _ v (from.0 j x (omega arith) less) (to.1 j x (omega arith) (omega arith))) | inr order ↦ order ]

  -- the elements with the value v lie between the two ends
  pub filter-slice_range : (xs : List X) (i j : ℕ) → i ≤ j → j ≤ length xs → EndsBelow xs i → EndsUpTo xs j → filter (λ x. value x == v) xs ≡ slice_range xs i j
  filter-slice_range xs i j order within from to =
      filter-take (λ x. value x == v) xs i (j - i) (omega arith)
      (λ k d l h. below_is_other _ v (from.0 k d l h))
      (λ k d l h. between_is_same _ v (from.1 k d l (omega arith)) (to.0 k d (omega arith) (omega arith)))
      (λ k d l h. above_is_other _ v (to.1 k d (omega arith) h))

-- the names of a value are those of the entries between the two ends
pub keys_of-slice_range : {K V N : Type 0} (name : K → N) (value : V → ℕ) (v : ℕ) (es : List (K × V)) (i j : ℕ) → i ≤ j → j ≤ length es → EndsBelow (λ e. value e.1) v es i → EndsUpTo (λ e. value e.1) v es j → map name (keys_of (slice_range es i j)) ≡ keys_of (filter (λ n. n.1 == v) (map (named name value) es))
keys_of-slice_range name value v es i j order within from to =
    ap (λ l. map name (keys_of l)) (sym (filter-slice_range (λ e. value e.1) v es i j order within from to)) ∙ (sym (keys_of-named name value _) ∙ ap keys_of (sym (filter-named name value v es)))

same_value : (a v : ℕ) → Some a ≡ Some v → (a == v) ≡ true
same_value a v h = let same : a ≡ v = cc in grind (arith, nat_tests)

-- a name with a value is among the names of that value
pub Contains-names_of : (symbols : List (List ℕ × ℕ)) (name : List ℕ) (v : ℕ) → value_of_name symbols name ≡ Some v → Contains (names_of symbols v) name
Contains-names_of [] name v h = cc
Contains-names_of (s ∷ ss) name v h =
    let others : List (List ℕ × ℕ) = filter (λ symbol. symbol.1 == v) ss in
    elim (cases_Bool (bytes_eq name s.0)) [
      | inl same ↦
          let is : name ≡ s.0 = (bytes_eq-Decides name s.0).0 same in
          rw (same_value s.1 v (rw same at h)) (0, omega arith, sym is)
      | inr different ↦
          let found : Contains (names_of ss v) name = Contains-names_of ss name v (rw different at h) in
          elim (s.1 == v) as (λ b. Contains (keys_of (cond b (s ∷ others) others)) name) [ true ↦ (suc found.0, omega arith, found.2) | false ↦ found ]
    ]

pub find-map : {X Y : Type 0} (f : X → Y) (test : Y → Bool) (xs : List X) → find test (map f xs) ≡ option_map f (find (λ x. test (f x)) xs)
find-map f test [] = refl
find-map f test (x ∷ xs) =
    elim (test (f x)) as (λ b. cond b (Some (f x)) (find test (map f xs)) ≡ option_map f (cond b (Some x) (find (λ x. test (f x)) xs))) [ true ↦ refl | false ↦ find-map f test xs ]
