-- The canon of a sum determines its value at whole values in the box.
use Rattle.std.proofs.Common.{◌≡◌, true, false, cond, eqb, List, [], ◌∷◌, get_or, ℤ, pos, ◌+ℤ◌, ◌*ℤ◌, Option, Some, None, refl, sym, ap, ◌∙◌, arith, rules, inl, inr}
use Rattle.std.proofs.Math.IntN.{*ℤ-zero, +ℤ_idl}
use Rattle.std.proofs.lemmas.Bool.{cases_Bool, eqb-true}
use Rattle.std.proofs.lemmas.Int.{ints}
use Rattle.intervals.specs.Logic.{is_single}
use Rattle.loop_bounds.proofs.Boxes.{total_agree}
use Rattle.loop_bounds.proofs.VariableLemmas.{same_from_rank}
use Rattle.loop_bounds.specs.Effect.{Valuation, whole}
use Rattle.loop_bounds.specs.Linear.{LinearView, total, value}
use Rattle.loop_bounds.specs.Ranges.{Box}
use Rattle.loop_bounds.specs.Variable.{rank_of}
use Rattle.loop_bounds.specs.declared.linear.Term.{Term}
use Rattle.loop_bounds.specs.declared.variable.Variable.{Variable}
use Rattle.linear_sums.specs.declared.bytes.WordBytes.{WordBytes}
use Rattle.linear_sums.specs.Bytes.{bytes_of, value_by_bytes, byte_form, AgreesWithBytes}
use Rattle.linear_sums.specs.Canon.{share, canon, IsZeroIn, HasOneValues}
use Rattle.linear_sums.proofs.Products.{sum_of_products, swapped_product, one_times, times_one}

-- ---- the byte form is linear

abbrev pub Values : Type 0
Values = Variable → ℤ

-- pointwise a plus k times b
abbrev IsMix : Values → Values → ℤ → Values → Type 0
IsMix z a k b = (w : Variable) → z w ≡ a w +ℤ k *ℤ b w

bytes_mix : (z a b : Values) (k : ℤ) → IsMix z a k b → (w : Variable) (word : Option WordBytes) → value_by_bytes z w word ≡ value_by_bytes a w word +ℤ k *ℤ value_by_bytes b w word
bytes_mix z a b k h w None = h w
bytes_mix z a b k h w (Some word) =
    let high : pos 256 *ℤ z word.high ≡ pos 256 *ℤ a word.high +ℤ pos 256 *ℤ (k *ℤ b word.high) = ap (λ n. pos 256 *ℤ n) (h word.high) ∙ sum_of_products (pos 256) (a word.high) (k *ℤ b word.high) in
    let turned : pos 256 *ℤ (k *ℤ b word.high) ≡ k *ℤ (pos 256 *ℤ b word.high) = swapped_product (pos 256) k (b word.high) in
    let split : k *ℤ (pos 256 *ℤ b word.high +ℤ b word.low) ≡ k *ℤ (pos 256 *ℤ b word.high) +ℤ k *ℤ b word.low = sum_of_products k (pos 256 *ℤ b word.high) (b word.low) in
    let low : z word.low ≡ a word.low +ℤ k *ℤ b word.low = h word.low in
    joined _ _ _ _ _ _ _ _ high turned split low
  where
    joined : (zh ah kh kbh zl al kl kb : ℤ) → zh ≡ ah +ℤ kh → kh ≡ kbh → kb ≡ kbh +ℤ kl → zl ≡ al +ℤ kl → zh +ℤ zl ≡ (ah +ℤ al) +ℤ kb
    joined zh ah kh kbh zl al kl kb p q r s = omega (arith, ints)

mix_by_bytes : (z a b : Values) (k : ℤ) → IsMix z a k b → IsMix (byte_form z) (byte_form a) k (byte_form b)
mix_by_bytes z a b k h w = bytes_mix z a b k h w (bytes_of w)

total_mix : (z a b : Values) (k : ℤ) → IsMix z a k b → (ts : List Term) → total z ts ≡ total a ts +ℤ k *ℤ total b ts
total_mix z a b k h [] = omega (arith, ints, *ℤ-zero k)
total_mix z a b k h (t ∷ ts) =
    let c = t.coefficient in
    let v = t.variable in
    let first : c *ℤ z v ≡ c *ℤ a v +ℤ c *ℤ (k *ℤ b v) = ap (λ n. c *ℤ n) (h v) ∙ sum_of_products c (a v) (k *ℤ b v) in
    let turned : c *ℤ (k *ℤ b v) ≡ k *ℤ (c *ℤ b v) = swapped_product c k (b v) in
    let split : k *ℤ (c *ℤ b v +ℤ total b ts) ≡ k *ℤ (c *ℤ b v) +ℤ k *ℤ total b ts = sum_of_products k (c *ℤ b v) (total b ts) in
    joined _ _ _ _ _ _ _ _ first turned split (total_mix z a b k h ts)
  where
    joined : (zh ah kh kbh zl al kl kb : ℤ) → zh ≡ ah +ℤ kh → kh ≡ kbh → kb ≡ kbh +ℤ kl → zl ≡ al +ℤ kl → zh +ℤ zl ≡ (ah +ℤ al) +ℤ kb
    joined zh ah kh kbh zl al kl kb p q r s = omega (arith, ints)

-- ---- a variable that is taken out

cleared : Variable → Values → Values
cleared v y w = cond (eqb (rank_of v) (rank_of w)) (pos 0) (y w)

cleared_there : (v w : Variable) (y : Values) → eqb (rank_of v) (rank_of w) ≡ true → cleared v y w ≡ pos 0
unfolding cleared
cleared_there v w y e = rw e refl

cleared_else : (v w : Variable) (y : Values) → eqb (rank_of v) (rank_of w) ≡ false → cleared v y w ≡ y w
unfolding cleared
cleared_else v w y e = rw e refl

cleared_itself : (v : Variable) (y : Values) → cleared v y v ≡ pos 0
cleared_itself v y = cleared_there v v y (search rules)

stays_zero : (v w : Variable) (y : Values) → y w ≡ pos 0 → cleared v y w ≡ pos 0
stays_zero v w y h = elim (cases_Bool (eqb (rank_of v) (rank_of w))) [
  | inl same ↦ cleared_there v w y same
  | inr other ↦ cleared_else v w y other ∙ h
]

share_single : (box : Box) (v w : Variable) → is_single (box w) ≡ true → share box (Some v) w ≡ pos 0
share_single box v w e = rw e refl

share_itself : (box : Box) (v w : Variable) → is_single (box w) ≡ false → eqb (rank_of v) (rank_of w) ≡ true → share box (Some v) w ≡ pos 1
share_itself box v w e f = rw (e, f) refl

pub share_else : (box : Box) (v w : Variable) → eqb (rank_of v) (rank_of w) ≡ false → share box (Some v) w ≡ pos 0
share_else box v w f = elim (cases_Bool (is_single (box w))) [
  | inl one ↦ share_single box v w one
  | inr more ↦ rw (more, f) refl
]

mixed : (a b c k s : ℤ) → a ≡ b → c ≡ pos 0 → k *ℤ s ≡ b → a ≡ c +ℤ k *ℤ s
mixed a b c k s p q r = omega (arith, ints)

mixed_none : (a b c k s : ℤ) → c ≡ a → k *ℤ s ≡ pos 0 → a ≡ c +ℤ k *ℤ s
mixed_none a b c k s p q = omega (arith, ints)

module _ (box : Box) where
  -- one-valued variables have the value 0
  abbrev pub IsFree : Values → Type 0
  IsFree y = (v : Variable) → is_single (box v) ≡ true → y v ≡ pos 0

  cleared_free : (v : Variable) (y : Values) → IsFree y → IsFree (cleared v y)
  cleared_free v y h w e = stays_zero v w y (h w e)

  nothing_of : (v w : Variable) (y : Values) → share box (Some v) w ≡ pos 0 → y v *ℤ share box (Some v) w ≡ pos 0
  nothing_of v w y e = ap (λ n. y v *ℤ n) e ∙ *ℤ-zero (y v)

  -- the values are those without the variable, plus its value times its share
  cleared_mix : (v : Variable) (y : Values) → IsFree y → IsMix y (cleared v y) (y v) (share box (Some v))
  cleared_mix v y h w = elim (cases_Bool (is_single (box w))) [
    | inl one ↦ mixed_none (y w) (y w) (cleared v y w) (y v) (share box (Some v) w) (stays_zero v w y (h w one) ∙ sym (h w one)) (nothing_of v w y (share_single box v w one))
    | inr more ↦ elim (cases_Bool (eqb (rank_of v) (rank_of w))) [
      | inl same ↦
          let is : v ≡ w = same_from_rank v w (eqb-true _ _ same) in
          mixed (y w) (y v) (cleared v y w) (y v) (share box (Some v) w) (ap y (sym is)) (cleared_there v w y same) (ap (λ n. y v *ℤ n) (share_itself box v w more same) ∙ times_one (y v))
      | inr other ↦ mixed_none (y w) (y w) (cleared v y w) (y v) (share box (Some v) w) (cleared_else v w y other) (nothing_of v w y (share_else box v w other))
    ]
  ]

  module _ (ts : List Term) (none : (v : Variable) → total (byte_form (share box (Some v))) ts ≡ pos 0) where
    same_cleared : (v : Variable) (y : Values) → IsFree y → total (byte_form y) ts ≡ total (byte_form (cleared v y)) ts
    same_cleared v y h =
        let mix = total_mix (byte_form y) (byte_form (cleared v y)) (byte_form (share box (Some v))) (y v) (mix_by_bytes y (cleared v y) (share box (Some v)) (y v) (cleared_mix v y h)) ts in
        let gone : y v *ℤ total (byte_form (share box (Some v))) ts ≡ pos 0 = ap (λ n. y v *ℤ n) (none v) ∙ *ℤ-zero (y v) in
        omega (arith, ints, mix, gone)

    -- both bytes of a variable are taken out, or the variable
    cleared_by_bytes : Variable → Option WordBytes → Values → Values
    cleared_by_bytes v None y = cleared v y
    cleared_by_bytes v (Some word) y = cleared word.low (cleared word.high y)

    same_cleared_bytes : (v : Variable) (word : Option WordBytes) (y : Values) → IsFree y → (total (byte_form y) ts ≡ total (byte_form (cleared_by_bytes v word y)) ts) × IsFree (cleared_by_bytes v word y)
    unfolding cleared_by_bytes
    same_cleared_bytes v None y h = (same_cleared v y h, cleared_free v y h)
    same_cleared_bytes v (Some word) y h =
        let free = cleared_free word.high y h in
        (same_cleared word.high y h ∙ same_cleared word.low (cleared word.high y) free, cleared_free word.low (cleared word.high y) free)

    stays_zero_bytes : (v w : Variable) (word : Option WordBytes) (y : Values) → y w ≡ pos 0 → cleared_by_bytes v word y w ≡ pos 0
    unfolding cleared_by_bytes
    stays_zero_bytes v w None y h = stays_zero v w y h
    stays_zero_bytes v w (Some word) y h = stays_zero word.low w (cleared word.high y) (stays_zero word.high w y h)

    -- the variables of the terms are taken out
    cleaned : List Term → Values → Values
    cleaned [] y = y
    cleaned (t ∷ us) y = cleaned us (cleared_by_bytes t.variable (bytes_of t.variable) y)

    same_cleaned : (us : List Term) (y : Values) → IsFree y → total (byte_form y) ts ≡ total (byte_form (cleaned us y)) ts
    unfolding cleaned
    same_cleaned [] y h = refl
    same_cleaned (t ∷ us) y h =
        let both = same_cleared_bytes t.variable (bytes_of t.variable) y h in
        both.0 ∙ same_cleaned us (cleared_by_bytes t.variable (bytes_of t.variable) y) both.1

    cleaned_zero : (us : List Term) (y : Values) (w : Variable) → y w ≡ pos 0 → cleaned us y w ≡ pos 0
    unfolding cleaned
    cleaned_zero [] y w h = h
    cleaned_zero (t ∷ us) y w h = cleaned_zero us (cleared_by_bytes t.variable (bytes_of t.variable) y) w (stays_zero_bytes t.variable w (bytes_of t.variable) y h)

    bytes_zero : (us : List Term) (y : Values) (v : Variable) (word : Option WordBytes) → value_by_bytes (cleaned us (cleared_by_bytes v word y)) v word ≡ pos 0
    unfolding cleared_by_bytes
    bytes_zero us y v None = cleaned_zero us (cleared v y) v (cleared_itself v y)
    bytes_zero us y v (Some word) =
        let z = cleared word.low (cleared word.high y) in
        let high = cleaned_zero us z word.high (stays_zero word.low word.high (cleared word.high y) (cleared_itself word.high y)) in
        let low = cleaned_zero us z word.low (cleared_itself word.low (cleared word.high y)) in
        let product = ap (λ n. pos 256 *ℤ n) high ∙ *ℤ-zero (pos 256) in
        omega (arith, ints, product, low)

    gone_from : (us : List Term) (y : Values) → total (byte_form (cleaned us y)) us ≡ pos 0
    unfolding cleaned
    gone_from [] y = refl
    gone_from (t ∷ us) y =
        let z = cleared_by_bytes t.variable (bytes_of t.variable) y in
        let first : t.coefficient *ℤ byte_form (cleaned us z) t.variable ≡ pos 0 = ap (λ n. t.coefficient *ℤ n) (bytes_zero us y t.variable (bytes_of t.variable)) ∙ *ℤ-zero t.coefficient in
        omega (arith, ints, first, gone_from us z)

    pub free_total : (y : Values) → IsFree y → total (byte_form y) ts ≡ pos 0
    free_total y h = same_cleaned ts y h ∙ gone_from ts y

-- ---- the value

module _ (box : Box) (x : Valuation) (bytes : AgreesWithBytes x) (known : HasOneValues box x) where
  -- the values of the variables that are not one-valued
  pub rest : Values
  rest v = cond (is_single (box v)) (pos 0) (whole x v)

  rest_free : IsFree box rest
  unfolding rest
  rest_free v e = rw e refl

  rest_of_more : (v : Variable) → is_single (box v) ≡ false → rest v ≡ whole x v
  unfolding rest
  rest_of_more v e = rw e refl

  share_of_one : (v : Variable) → is_single (box v) ≡ true → share box None v ≡ whole x v
  share_of_one v e = let is : pos (box v).low ≡ pos (x v) = ap pos (sym (known v e)) in rw e is

  share_of_more : (v : Variable) → is_single (box v) ≡ false → share box None v ≡ pos 0
  share_of_more v e = rw e refl

  parts : IsMix (whole x) (share box None) (pos 1) rest
  parts v = elim (cases_Bool (is_single (box v))) [
    | inl one ↦ mixed_none (whole x v) (whole x v) (share box None v) (pos 1) (rest v) (share_of_one v one) (one_times (rest v) ∙ rest_free v one)
    | inr more ↦ mixed (whole x v) (whole x v) (share box None v) (pos 1) (rest v) refl (share_of_more v more) (one_times (rest v) ∙ rest_of_more v more)
  ]

  pub value_parts : (s : LinearView) → value (whole x) s ≡ canon s box None +ℤ total (byte_form rest) s.terms
  value_parts s =
      let by_bytes : total (whole x) s.terms ≡ total (byte_form (whole x)) s.terms = total_agree (whole x) (byte_form (whole x)) s.terms (λ k d p. bytes (get_or s.terms k d).variable) in
      let mix = total_mix (byte_form (whole x)) (byte_form (share box None)) (byte_form rest) (pos 1) (mix_by_bytes (whole x) (share box None) rest (pos 1) parts) s.terms in
      let once_more = one_times (total (byte_form rest) s.terms) in
      omega (arith, ints, by_bytes, mix, once_more)

  -- a sum whose canon is 0 has the value 0
  pub value_of_zero : (s : LinearView) → IsZeroIn box s → value (whole x) s ≡ pos 0
  value_of_zero s zero =
      let gone = free_total box s.terms (λ v. sym (+ℤ_idl (total (byte_form (share box (Some v))) s.terms)) ∙ zero (Some v)) rest rest_free in
      omega (arith, ints, value_parts s, zero None, gone)
