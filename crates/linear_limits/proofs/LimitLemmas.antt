-- No value on the side of 0 is lost by a limit.
use Rattle.std.proofs.Common.{◌≡◌, ℕ, suc, ◌+◌, ◌*◌, ◌/◌, ◌%◌, ◌<◌, ◌≤◌, min, max, true, List, [], ◌∷◌, length, get_or, drop, ℤ, pos, negsuc, neg_ℤ, ◌-ℤ◌, ◌*ℤ◌, ◌≤ℤ◌, Option, Some, None, refl, sym, subst, ap, ◌∙◌, arith, unsigned_abs, IsSomeAnd, inl, inr, add-one, drop-cons, length-drop}
use Rattle.std.proofs.Math.IntN.{pos-*ℤ-pos, negsuc-*ℤ-pos}
use Rattle.std.proofs.lemmas.Int.{ints}
use Rattle.std.proofs.lemmas.Nat.{mul-le, le-div}
use Rattle.std.proofs.lemmas.Grind.{div_ceil_times}
use Rattle.std.proofs.lemmas.Bool.{cases_lt}
use Rattle.std.proofs.lemmas.Bool.Decides.{nat_tests}
use Rattle.intervals.proofs.PairChanges.{kept_through}
use Rattle.intervals.specs.Range.{RangeView, Within, between}
use Rattle.loop_bounds.specs.Effect.{Valuation, whole}
use Rattle.loop_bounds.specs.Form.{end_of}
use Rattle.loop_bounds.specs.Linear.{LinearView, IsLinear, value}
use Rattle.loop_bounds.specs.Ranges.{Box}
use Rattle.loop_bounds.specs.Tighten.{quotient_up, top_of}
use Rattle.loop_bounds.specs.declared.linear.Term.{Term}
use Rattle.loop_bounds.specs.declared.variable.Variable.{Variable}
use Rattle.linear_limits.specs.declared.limiting.SideOfZero.{SideOfZero}
use Rattle.linear_limits.specs.declared.limiting.SideOfZero.TheVariants.{Below, NotBelow}
use Rattle.linear_limits.specs.Extremes.{least_value, greatest_value}
use Rattle.linear_limits.specs.Products.{multiples_up_to, multiples_from, products_up_to, products_from}
use Rattle.linear_limits.specs.Limit.{IsOnSide, reaches_side, least_of_others, greatest_of_others, limit_left, limited_by, limited}
use Rattle.linear_limits.proofs.SpanLemmas.{LiesWithin, above_least_value, below_greatest_value, others_above, others_below}

-- ---- products with a bound

quotient_up_below : (z : ℤ) (factor n : ℕ) → 0 < factor → z ≤ℤ pos (factor * n) → quotient_up z factor ≤ n
quotient_up_below (negsuc z) factor n h k = omega arith
quotient_up_below (pos z) factor n h k =
    let times = div_ceil_times z factor h in
    let below : z ≤ factor * n = omega (arith, ints) in
    elim (cases_lt n (z / factor + min 1 (z % factor))) [
      | inl over ↦ absurd (omega (arith, times.1, mul-le (suc n) factor (z / factor + min 1 (z % factor)) factor over (omega arith)))
      | inr fine ↦ fine
    ]

lies_between : (low high n : ℕ) → low ≤ n → n ≤ high → IsSomeAnd (between low high) (λ q. Within q n)
lies_between low high n p q = grind (arith, nat_tests)

multiples_up_to_keep : (to : ℤ) (factor : ℕ) (r : RangeView) (n : ℕ) → 0 < factor → Within r n → pos (factor * n) ≤ℤ to → IsSomeAnd (multiples_up_to to factor r) (λ q. Within q n)
multiples_up_to_keep (pos m) factor r n h inside most =
    let down : n ≤ m / factor = le-div n m factor h (omega (arith, ints)) in
    lies_between r.low (min r.high (m / factor)) n inside.0 (omega arith)
multiples_up_to_keep (negsuc m) factor r n h inside most = absurd (omega (arith, ints))

multiples_from_keep : (from : ℤ) (factor : ℕ) (r : RangeView) (n : ℕ) → 0 < factor → Within r n → from ≤ℤ pos (factor * n) → IsSomeAnd (multiples_from from factor r) (λ q. Within q n)
multiples_from_keep from factor r n h inside least =
    let up = quotient_up_below from factor n h least in
    lies_between (max r.low (quotient_up from factor)) r.high n (omega arith) inside.1

products_up_to_keep : (c to : ℤ) (r : RangeView) (n : ℕ) → 0 < unsigned_abs c → Within r n → (c *ℤ pos n) ≤ℤ to → IsSomeAnd (products_up_to c to r) (λ q. Within q n)
products_up_to_keep (pos f) to r n h inside most =
    multiples_up_to_keep to f r n h inside (rw (pos-*ℤ-pos f n) at most)
products_up_to_keep (negsuc f) to r n h inside most =
    let product = negsuc-*ℤ-pos f n in
    multiples_from_keep (neg_ℤ to) (suc f) r n (omega arith) inside (omega (arith, ints, product))

products_from_keep : (c from : ℤ) (r : RangeView) (n : ℕ) → 0 < unsigned_abs c → Within r n → from ≤ℤ (c *ℤ pos n) → IsSomeAnd (products_from c from r) (λ q. Within q n)
products_from_keep (pos f) from r n h inside least =
    multiples_from_keep from f r n h inside (rw (pos-*ℤ-pos f n) at least)
products_from_keep (negsuc f) from r n h inside least =
    let product = negsuc-*ℤ-pos f n in
    multiples_up_to_keep (neg_ℤ from) (suc f) r n (omega arith) inside (omega (arith, ints, product))

-- ---- what the code computes

pub below_is : (box : Box) (s : LinearView) (t : Term) (r : RangeView) (to others least lowest : ℤ) (result : Option RangeView) → r ≡ box t.variable → least ≡ least_value box s → lowest ≡ t.coefficient *ℤ pos (end_of r t.coefficient) → others ≡ least -ℤ lowest → to ≡ negsuc 0 -ℤ others → result ≡ products_up_to t.coefficient to r → result ≡ limit_left Below s box t
below_is box s t r to others least lowest result e is_least is_lowest is_others is_to is =
    let end = ap (λ (q : RangeView). t.coefficient *ℤ pos (end_of q t.coefficient)) e in
    let same : to ≡ negsuc 0 -ℤ least_of_others s box t =
    is_to ∙ ap (λ z. negsuc 0 -ℤ z) (is_others ∙ ap (λ z. z -ℤ lowest) is_least ∙ ap (λ z. least_value box s -ℤ z) (is_lowest ∙ end)) in
    is ∙ ap (λ z. products_up_to t.coefficient z r) same ∙ ap (λ q. products_up_to t.coefficient (negsuc 0 -ℤ least_of_others s box t) q) e

pub not_below_is : (box : Box) (s : LinearView) (t : Term) (r : RangeView) (from others greatest highest : ℤ) (result : Option RangeView) → r ≡ box t.variable → greatest ≡ greatest_value box s → highest ≡ t.coefficient *ℤ pos (top_of r t.coefficient) → others ≡ greatest -ℤ highest → from ≡ pos 0 -ℤ others → result ≡ products_from t.coefficient from r → result ≡ limit_left NotBelow s box t
not_below_is box s t r from others greatest highest result e is_greatest is_highest is_others is_from is =
    let top = ap (λ (q : RangeView). t.coefficient *ℤ pos (top_of q t.coefficient)) e in
    let same : from ≡ pos 0 -ℤ greatest_of_others s box t =
    is_from ∙ ap (λ z. pos 0 -ℤ z) (is_others ∙ ap (λ z. z -ℤ highest) is_greatest ∙ ap (λ z. greatest_value box s -ℤ z) (is_highest ∙ top)) in
    is ∙ ap (λ z. products_from t.coefficient z r) same ∙ ap (λ q. products_from t.coefficient (pos 0 -ℤ greatest_of_others s box t) q) e

-- ---- one term

module _ (box : Box) (s : LinearView) (linear : IsLinear s) (k : ℕ) (t : Term) (x : Valuation) (inside : k < length s.terms) (at : t ≡ get_or s.terms k t) (within : LiesWithin box x) where
  pub coefficient_there : 0 < unsigned_abs t.coefficient
  coefficient_there = subst (λ (u : Term). 0 < unsigned_abs u.coefficient) (sym at) (let both = linear.coefficients k t inside in both.0)

  least_left : (least_value box s -ℤ t.coefficient *ℤ pos (end_of (box t.variable) t.coefficient)) ≤ℤ (value (whole x) s -ℤ t.coefficient *ℤ pos (x t.variable))
  least_left =
      let there = subst (λ (u : Term). (least_value box s -ℤ u.coefficient *ℤ pos (end_of (box u.variable) u.coefficient)) ≤ℤ (value (whole x) s -ℤ u.coefficient *ℤ pos (x u.variable))) (sym at) (omega (arith, ints, others_above box x within s.terms k t inside)) in
      there

  greatest_left : (value (whole x) s -ℤ t.coefficient *ℤ pos (x t.variable)) ≤ℤ (greatest_value box s -ℤ t.coefficient *ℤ pos (top_of (box t.variable) t.coefficient))
  greatest_left =
      let there = subst (λ (u : Term). (value (whole x) s -ℤ u.coefficient *ℤ pos (x u.variable)) ≤ℤ (greatest_value box s -ℤ u.coefficient *ℤ pos (top_of (box u.variable) u.coefficient))) (sym at) (omega (arith, ints, others_below box x within s.terms k t inside)) in
      there

  pub limit_keep : (side : SideOfZero) → IsOnSide side (value (whole x) s) → IsSomeAnd (limit_left side s box t) (λ q. Within q (x t.variable))
  limit_keep Below on =
      let others = least_left in
      products_up_to_keep t.coefficient _ (box t.variable) (x t.variable) coefficient_there (within t.variable) (omega (arith, ints, others, on))
  limit_keep NotBelow on =
      let others = greatest_left in
      products_from_keep t.coefficient _ (box t.variable) (x t.variable) coefficient_there (within t.variable) (omega (arith, ints, others, on))

pub reaches_keep : (side : SideOfZero) (s : LinearView) (box : Box) (x : Valuation) → LiesWithin box x → IsOnSide side (value (whole x) s) → reaches_side side s box ≡ true
reaches_keep Below s box x within on =
    let least = above_least_value box s x within in
    grind (arith, ints, least, on)
reaches_keep NotBelow s box x within on =
    let greatest = below_greatest_value box s x within in
    grind (arith, ints, greatest, on)

-- ---- the terms in their order

module _ {S : Type 0} (range_of : S → Box) (cut_to : S → Variable → RangeView → Option S) (side : SideOfZero) (linear : LinearView) (items : List Term) (k : ℕ) (t : Term) (s : S) (inside : k < length items) (at : t ≡ get_or items k t) where
  rest_is : limited_by range_of cut_to side linear (drop k items) s ≡ limited_by range_of cut_to side linear (t ∷ drop (k + 1) items) s
  rest_is =
      let here : drop k items ≡ t ∷ drop (k + 1) items = rw (add-one, drop-cons items k t) (ap (λ (u : Term). u ∷ drop (suc k) items) (sym at)) in
      ap (λ (ts : List Term). limited_by range_of cut_to side linear ts s) here

  pub goes_on : (left : RangeView) (next : S) → limit_left side linear (range_of s) t ≡ Some left → cut_to s t.variable left ≡ Some next → limited_by range_of cut_to side linear (drop k items) s ≡ limited_by range_of cut_to side linear (drop (k + 1) items) next
  goes_on left next e f = rest_is ∙ rw (e, f) refl

  pub nothing_left : limit_left side linear (range_of s) t ≡ None → limited_by range_of cut_to side linear (drop k items) s ≡ None
  nothing_left e = rest_is ∙ rw e refl

  pub nothing_cut : (left : RangeView) → limit_left side linear (range_of s) t ≡ Some left → cut_to s t.variable left ≡ None → limited_by range_of cut_to side linear (drop k items) s ≡ None
  nothing_cut left e f = rest_is ∙ rw (e, f) refl

pub limit_kept : (box : Box) (s : LinearView) (items : List Term) (k : ℕ) (t : Term) (x : Valuation) → items ≡ s.terms → IsLinear s → k < length items → t ≡ get_or items k t → LiesWithin box x → (side : SideOfZero) → IsOnSide side (value (whole x) s) → IsSomeAnd (limit_left side s box t) (λ q. Within q (x t.variable))
limit_kept box s items k t x same linear inside at within side on =
    limit_keep box s linear k t x (subst (λ (ts : List Term). k < length ts) same inside) (subst (λ (ts : List Term). t ≡ get_or ts k t) same at) within side on

pub coefficient_small : (s : LinearView) (items : List Term) (k : ℕ) (t : Term) → items ≡ s.terms → IsLinear s → k < length items → t ≡ get_or items k t → (0 < unsigned_abs t.coefficient) × (unsigned_abs t.coefficient ≤ 1000000)
coefficient_small s items k t same linear inside at =
    subst (λ (u : Term). (0 < unsigned_abs u.coefficient) × (unsigned_abs u.coefficient ≤ 1000000)) (sym (subst (λ (ts : List Term). t ≡ get_or ts k t) same at)) (linear.coefficients k t (subst (λ (ts : List Term). k < length ts) same inside))

-- ---- the whole linear, stated of the definition for the proofs of the crates above

module _ {S : Type 0} (range_of : S → Box) (cut_to : S → Variable → RangeView → Option S) (holds : S → Valuation → Type 0) (in_ranges : (s : S) (x : Valuation) (v : Variable) → holds s x → Within (range_of s v) (x v)) (keeps : (s : S) (x : Valuation) (v : Variable) (to : RangeView) → holds s x → Within to (x v) → IsSomeAnd (cut_to s v to) (λ t. holds t x)) (side : SideOfZero) (linear : LinearView) (is : IsLinear linear) (x : Valuation) (on : IsOnSide side (value (whole x) linear)) where
  limited_by_keeps : (ts : List Term) (k : ℕ) (s : S) → drop k linear.terms ≡ ts → holds s x → IsSomeAnd (limited_by range_of cut_to side linear ts s) (λ t. holds t x)
  limited_by_keeps [] k s e h = h
  limited_by_keeps (t ∷ ts) k s e h =
      let long : length (drop k linear.terms) ≡ suc (length ts) = ap length e in
      let inside : k < length linear.terms = omega (arith, long, length-drop k linear.terms) in
      let parts : drop k linear.terms ≡ get_or linear.terms k t ∷ drop (suc k) linear.terms = drop-cons linear.terms k t inside in
      let both : get_or linear.terms k t ∷ drop (suc k) linear.terms ≡ t ∷ ts = sym parts ∙ e in
      let at : t ≡ get_or linear.terms k t = cc in
      let rest : drop (k + 1) linear.terms ≡ ts = let there : drop (suc k) linear.terms ≡ ts = cc in rw add-one there in
      let share = limit_keep (range_of s) linear is k t x inside at (λ v. in_ranges s x v h) side on in
      kept_through (limit_left side linear (range_of s) t) (λ (q : RangeView). Within q (x t.variable)) _ (λ u. holds u x) share
      (λ left in_left. kept_through (cut_to s t.variable left) (λ u. holds u x) _ (λ u. holds u x) (keeps s x t.variable left h in_left)
      (λ next held. limited_by_keeps ts (k + 1) next rest held))

  pub limited_keeps : (s : S) → holds s x → IsSomeAnd (limited range_of cut_to side linear s) (λ t. holds t x)
  limited_keeps s h = rw (reaches_keep side linear (range_of s) x (λ v. in_ranges s x v h) on) (limited_by_keeps linear.terms 0 s refl h)
