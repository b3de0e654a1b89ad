-- Multiples of canons: what a test at some places says of all, and of the values.
use Rattle.std.proofs.Common.{◌≡◌, ◌≢◌, ℕ, ◌+◌, Bool, true, false, eqb, List, [], ◌∷◌, ◌++◌, length, map, ℤ, pos, negsuc, ◌+ℤ◌, ◌*ℤ◌, Option, Some, None, refl, sym, subst, ap, ◌∙◌, arith, rules, All, IsTrue, inl, inr, ◌⊎◌, ◌<◌, ◌≤◌, get_or, take, take_all}
use Rattle.std.proofs.Math.IntN.{*ℤ_comm, *ℤ-zero, +ℤ_idl}
use Rattle.std.proofs.lemmas.Bool.{cases_Bool, eqb-true}
use Rattle.std.proofs.lemmas.Int.{ints}
use Rattle.std.proofs.lemmas.List.Elements.{All-head, All-tail, All-push}
use Rattle.std.proofs.lemmas.List.{take_more}
use Rattle.loop_bounds.proofs.VariableLemmas.{same_from_rank}
use Rattle.loop_bounds.specs.Effect.{Valuation, whole}
use Rattle.loop_bounds.specs.Linear.{LinearView, total, value}
use Rattle.loop_bounds.specs.Ranges.{Box}
use Rattle.loop_bounds.specs.Variable.{rank_of}
use Rattle.loop_bounds.specs.declared.linear.Term.{Term}
use Rattle.loop_bounds.specs.declared.variable.Variable.{Variable}
use Rattle.linear_sums.specs.declared.bytes.WordBytes.{WordBytes}
use Rattle.linear_sums.specs.Bytes.{bytes_of, value_by_bytes, byte_form, AgreesWithBytes, HoldsByBytes, EachByte}
use Rattle.linear_sums.specs.Canon.{share, canon, IsZeroIn, IsSameIn, IsMultipleIn, AgreeAt, AreProportional, HasOneValues}
use Rattle.linear_sums.specs.Sum.{multiplied, plus_multiple}
use Rattle.linear_sums.proofs.CanonLemmas.{share_else, value_of_zero}
use Rattle.linear_sums.proofs.Products.{product_of_products, minus_once, swapped_product, one_times, product_there, cancelled}
use Rattle.linear_sums.proofs.SumLemmas.{total_append, total_multiplied, value_plus_multiple}

-- ---- a variable that is no byte of the terms has the coefficient 0

coefficient_from : (box : Box) (s : LinearView) (v : Variable) → total (byte_form (share box (Some v))) s.terms ≡ pos 0 → canon s box (Some v) ≡ pos 0
coefficient_from box s v e = ap (λ n. pos 0 +ℤ n) e

module _ (box : Box) (P : Variable → Type 0) (v : Variable) where
  same_or_none : (w : Variable) → P w → P v ⊎ (share box (Some v) w ≡ pos 0)
  same_or_none w p = elim (cases_Bool (eqb (rank_of v) (rank_of w))) [
    | inl same ↦ let is : v ≡ w = same_from_rank v w (eqb-true _ _ same) in inl (subst P (sym is) p)
    | inr other ↦ inr (share_else box v w other)
  ]

  byte_or_none : (w : Variable) (word : Option WordBytes) → HoldsByBytes P w word → P v ⊎ (value_by_bytes (share box (Some v)) w word ≡ pos 0)
  byte_or_none w None h = same_or_none w h
  byte_or_none w (Some word) h = elim (same_or_none word.high h.0) [
    | inl p ↦ inl p
    | inr high ↦ elim (same_or_none word.low h.1) [
      | inl p ↦ inl p
      | inr low ↦ inr (let product = ap (λ n. pos 256 *ℤ n) high ∙ *ℤ-zero (pos 256) in omega (arith, ints, product, low))
    ]
  ]

  pub held_or_none : (ts : List Term) → All (λ t. EachByte P t.variable) ts → P v ⊎ (total (byte_form (share box (Some v))) ts ≡ pos 0)
  held_or_none [] h = inr refl
  held_or_none (t ∷ ts) h = elim (byte_or_none t.variable (bytes_of t.variable) (All-head (λ (u : Term). EachByte P u.variable) t ts h)) [
    | inl p ↦ inl p
    | inr first ↦ elim (held_or_none ts (All-tail (λ (u : Term). EachByte P u.variable) t ts h)) [
      | inl p ↦ inl p
      | inr rest ↦ inr (let product = ap (λ n. t.coefficient *ℤ n) first ∙ *ℤ-zero t.coefficient in omega (arith, ints, product, rest))
    ]
  ]

-- a fact of all variables is one of each variable's bytes
pub each_by_bytes : (P : Variable → Type 0) → ((v : Variable) → P v) → (w : Variable) (word : Option WordBytes) → HoldsByBytes P w word
each_by_bytes P h w None = h w
each_by_bytes P h w (Some word) = (h word.high, h word.low)

-- ---- the places that the code tries

pub agree_everywhere : (box : Box) (k : ℤ) (s : LinearView) (j : ℤ) (t : LinearView) → AgreeAt box k s j t None → All (λ u. EachByte (λ v. AgreeAt box k s j t (Some v)) u.variable) s.terms → All (λ u. EachByte (λ v. AgreeAt box k s j t (Some v)) u.variable) t.terms → AreProportional box k s j t
agree_everywhere box k s j t constant first second None = constant
agree_everywhere box k s j t constant first second (Some v) = elim (held_or_none box (λ w. AgreeAt box k s j t (Some w)) v s.terms first) [
  | inl p ↦ p
  | inr none ↦ elim (held_or_none box (λ w. AgreeAt box k s j t (Some w)) v t.terms second) [
    | inl p ↦ p
    | inr absent ↦ ap (λ n. k *ℤ n) (coefficient_from box s v none) ∙ *ℤ-zero k ∙ sym (ap (λ n. j *ℤ n) (coefficient_from box t v absent) ∙ *ℤ-zero j)
  ]
]

pub agree_at_all : (box : Box) (k : ℤ) (s : LinearView) (j : ℤ) (t : LinearView) (ts : List Term) → AreProportional box k s j t → All (λ u. EachByte (λ v. AgreeAt box k s j t (Some v)) u.variable) ts
agree_at_all box k s j t ts h i d p = each_by_bytes (λ v. AgreeAt box k s j t (Some v)) (λ v. h (Some v)) _ _

pub zero_everywhere : (box : Box) (s : LinearView) → All (λ u. EachByte (λ v. canon s box (Some v) ≡ pos 0) u.variable) s.terms → (v : Variable) → canon s box (Some v) ≡ pos 0
zero_everywhere box s h v = elim (held_or_none box (λ w. canon s box (Some w) ≡ pos 0) v s.terms h) [ inl p ↦ p | inr none ↦ coefficient_from box s v none ]

-- ---- a multiple, from what both have at one place

module _ (box : Box) (s t : LinearView) (at : Option Variable) (there : canon s box at ≢ pos 0) where
  abbrev here : ℤ
  here = canon s box at

  abbrev other : ℤ
  other = canon t box at

  pub multiple_from : other ≢ pos 0 → AreProportional box other s here t → IsMultipleIn box s t
  multiple_from p h = inr (other, here, p, there, h)

  pub other_there : IsMultipleIn box s t → other ≢ pos 0
  other_there (inl zero) e = there (zero at)
  other_there (inr (k, j, p, q, h)) e =
      let none : k *ℤ here ≡ pos 0 = h at ∙ ap (λ n. j *ℤ n) e ∙ *ℤ-zero j in
      product_there k here p there none

  pub proportional_from : IsMultipleIn box s t → AreProportional box other s here t
  proportional_from (inl zero) place = absurd (there (zero at))
  proportional_from (inr (k, j, p, q, h)) place =
      cancelled k (other *ℤ canon s box place) (here *ℤ canon t box place) p
      (swapped_product k other (canon s box place)
      ∙ ap (λ n. other *ℤ n) (h place)
      ∙ sym (product_of_products other j (canon t box place))
      ∙ ap (λ n. n *ℤ canon t box place) (*ℤ_comm other j ∙ sym (h at))
      ∙ product_of_products k here (canon t box place))

-- ---- values

canon_plus_multiple : (box : Box) (s : LinearView) (k : ℤ) (t : LinearView) (at : Option Variable) → canon (plus_multiple s k t) box at ≡ canon s box at +ℤ k *ℤ canon t box at
canon_plus_multiple box s k t None = value_plus_multiple (byte_form (share box None)) s k t
canon_plus_multiple box s k t (Some v) =
    let x = byte_form (share box (Some v)) in
    let both = total_append x s.terms (map (multiplied k) t.terms) in
    let times = total_multiplied x k t.terms in
    let same : k *ℤ (pos 0 +ℤ total x t.terms) ≡ k *ℤ total x t.terms = ap (λ n. k *ℤ n) (+ℤ_idl (total x t.terms)) in
    omega (arith, ints, both, times, same)

abbrev nothing : LinearView
nothing = record { constant = pos 0; terms = [] }

canon_nothing : (box : Box) (at : Option Variable) → canon nothing box at ≡ pos 0
canon_nothing box None = refl
canon_nothing box (Some v) = refl

module _ (box : Box) (k : ℤ) (s : LinearView) (j : ℤ) (t : LinearView) (h : AreProportional box k s j t) where
  difference : LinearView
  difference = plus_multiple (plus_multiple nothing k s) (negsuc 0) (plus_multiple nothing j t)

  no_difference : IsZeroIn box difference
  unfolding difference
  no_difference at =
      let whole_canon = canon_plus_multiple box (plus_multiple nothing k s) (negsuc 0) (plus_multiple nothing j t) at in
      let first = canon_plus_multiple box nothing k s at in
      let second = canon_plus_multiple box nothing j t at in
      let minus = minus_once (canon (plus_multiple nothing j t) box at) in
      let none = canon_nothing box at in
      omega (arith, ints, whole_canon, first, second, minus, none, h at)

  pub proportional_values : (x : Valuation) → AgreesWithBytes x → HasOneValues box x → k *ℤ value (whole x) s ≡ j *ℤ value (whole x) t
  unfolding difference
  proportional_values x bytes known =
      let zero = value_of_zero box x bytes known difference no_difference in
      let sum = value_plus_multiple (whole x) (plus_multiple nothing k s) (negsuc 0) (plus_multiple nothing j t) in
      let first = value_plus_multiple (whole x) nothing k s in
      let second = value_plus_multiple (whole x) nothing j t in
      let minus = minus_once (value (whole x) (plus_multiple nothing j t)) in
      omega (arith, ints, zero, sum, first, second, minus)

-- equal canons give equal values
pub same_values : (box : Box) (s t : LinearView) → IsSameIn box s t → (x : Valuation) → AgreesWithBytes x → HasOneValues box x → value (whole x) s ≡ value (whole x) t
same_values box s t h x bytes known =
    let both = proportional_values box (pos 1) s (pos 1) t (λ at. ap (λ n. pos 1 *ℤ n) (h at)) x bytes known in
    sym (one_times (value (whole x) s)) ∙ both ∙ one_times (value (whole x) t)

-- a multiple of a sum whose value is 0 has the value 0
pub multiple_value : (box : Box) (s t : LinearView) → IsMultipleIn box s t → (x : Valuation) → AgreesWithBytes x → HasOneValues box x → value (whole x) t ≡ pos 0 → value (whole x) s ≡ pos 0
multiple_value box s t (inl zero) x bytes known none = value_of_zero box x bytes known s zero
multiple_value box s t (inr (k, j, p, q, h)) x bytes known none =
    let both = proportional_values box k s j t h x bytes known in
    cancelled k (value (whole x) s) (pos 0) p (both ∙ ap (λ n. j *ℤ n) none ∙ *ℤ-zero j ∙ sym (*ℤ-zero k))

pub same_from_proportional : (box : Box) (s t : LinearView) → AreProportional box (pos 1) s (pos 1) t → IsSameIn box s t
same_from_proportional box s t h at = sym (one_times (canon s box at)) ∙ h at ∙ one_times (canon t box at)

pub proportional_from_same : (box : Box) (s t : LinearView) → IsSameIn box s t → AreProportional box (pos 1) s (pos 1) t
proportional_from_same box s t h at = ap (λ n. pos 1 *ℤ n) (h at)

-- ---- the loops over terms

-- they are equal at each byte of a term's variable
abbrev pub AgreeByBytes : Box → ℤ → LinearView → ℤ → LinearView → Term → Type 0
AgreeByBytes box k s j t u = EachByte (λ v. AgreeAt box k s j t (Some v)) u.variable

-- the coefficients of a term's bytes are 0
abbrev pub IsZeroByBytes : Box → LinearView → Term → Type 0
IsZeroByBytes box s u = EachByte (λ v. canon s box (Some v) ≡ pos 0) u.variable

pub fails_at : (P : Term → Type 0) (ts : List Term) (k : ℕ) (t : Term) (b : Bool) → k < length ts → t ≡ get_or ts k t → b ≡ false → (P t → IsTrue b) → (IsTrue false → All P ts) × (All P ts → IsTrue false)
fails_at P ts k t b inside at e h = (λ f. absurd (search rules), λ all. subst IsTrue e (h (subst P (sym at) (all k t inside))))

pub all_more : (P : Term → Type 0) (ts : List Term) (k : ℕ) (t : Term) → All P (take k ts) → k < length ts → t ≡ get_or ts k t → P t → All P (take (k + 1) ts)
all_more P ts k t h inside at p =
    let more : take (k + 1) ts ≡ take k ts ++ t ∷ [] = take_more ts k t inside ∙ ap (λ (u : Term). take k ts ++ u ∷ []) (sym at) in
    subst (All P) (sym more) (All-push P (take k ts) t h p)

pub all_seen : (P : Term → Type 0) (ts : List Term) (k : ℕ) → All P (take k ts) → length ts ≤ k → (IsTrue true → All P ts) × (All P ts → IsTrue true)
all_seen P ts k h all = (λ t. subst (All P) (take_all k ts all) h, λ a. search rules)

pub equal_products : (b : Bool) (x y k m j n : ℤ) → x ≡ k *ℤ m → y ≡ j *ℤ n → (IsTrue b → x ≡ y) × (x ≡ y → IsTrue b) → (IsTrue b → k *ℤ m ≡ j *ℤ n) × (k *ℤ m ≡ j *ℤ n → IsTrue b)
equal_products b x y k m j n e f h = (λ t. sym e ∙ h.0 t ∙ f, λ p. h.1 (e ∙ p ∙ sym f))

-- the constant and all variables are 0
pub zero_at_all : (box : Box) (s : LinearView) → canon s box None ≡ pos 0 → ((v : Variable) → canon s box (Some v) ≡ pos 0) → IsZeroIn box s
zero_at_all box s constant coefficients None = constant
zero_at_all box s constant coefficients (Some v) = coefficients v

pub zero_from_seen : (box : Box) (s : LinearView) (ts : List Term) (k : ℕ) → All (IsZeroByBytes box s) (take k ts) → ts ≡ s.terms → length ts ≤ k → (v : Variable) → canon s box (Some v) ≡ pos 0
zero_from_seen box s ts k h same all = zero_everywhere box s (subst (All (IsZeroByBytes box s)) (take_all k ts all ∙ same) h)

-- ---- the tests together

pub none_from : (P : Type 0) (b : Bool) → b ≡ false → (P → IsTrue b) → (IsTrue false → P) × (P → IsTrue false)
none_from P b e h = (λ f. absurd (search rules), λ p. subst IsTrue e (h p))

pub proportional_if : (box : Box) (k : ℤ) (s : LinearView) (j : ℤ) (t : LinearView) (ss ts : List Term) (first second third : Bool) → ss ≡ s.terms → ts ≡ t.terms → first ≡ true → (IsTrue first → AgreeAt box k s j t None) → second ≡ true → (IsTrue second → All (AgreeByBytes box k s j t) ss) → (IsTrue third → All (AgreeByBytes box k s j t) ts) → (IsTrue third → AreProportional box k s j t) × (AreProportional box k s j t → All (AgreeByBytes box k s j t) ts)
proportional_if box k s j t ss ts first second third e f a pa b pb pc = (
  λ r. agree_everywhere box k s j t (pa (subst IsTrue (sym a) (search rules))) (subst (All (AgreeByBytes box k s j t)) e (pb (subst IsTrue (sym b) (search rules)))) (subst (All (AgreeByBytes box k s j t)) f (pc r)),
  λ h. agree_at_all box k s j t ts h,
)
