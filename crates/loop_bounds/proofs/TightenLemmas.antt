-- What a fact leaves of a range.
use Rattle.std.proofs.Common.{◌≡◌, ℕ, zero, suc, ◌+◌, ◌*◌, ◌/◌, ◌%◌, ◌<◌, ◌≤◌, ◌^◌, min, max, List, [], ◌∷◌, ◌++◌, length, get_or, take, drop, ℤ, pos, negsuc, neg_ℤ, ◌+ℤ◌, ◌-ℤ◌, ◌*ℤ◌, ◌≤ℤ◌, Option, Some, None, refl, sym, subst, ap, ◌∙◌, arith, All, unsigned_abs, IsSomeAnd, remove, inl, inr, add-one, drop-cons, length-drop}
use Rattle.std.proofs.Math.IntN.{pos-*ℤ-pos, negsuc-*ℤ-pos}
use Rattle.std.proofs.lemmas.Int.{ints}
use Rattle.std.proofs.lemmas.Nat.{mul-le, le-div}
use Rattle.std.proofs.lemmas.Grind.{div_ceil_times}
use Rattle.std.proofs.lemmas.Bool.{cases_lt}
use Rattle.std.proofs.lemmas.Bool.Decides.{nat_tests}
use Rattle.intervals.specs.Range.{RangeView, Within, between, intersection}
use Rattle.std.proofs.lemmas.List.{take_more}
use Rattle.std.proofs.lemmas.List.Elements.{All-head, All-tail}
use Rattle.std.proofs.lemmas.List.Sums.{sum_by-append, sum_by-take-le}
use Rattle.intervals.proofs.PairChanges.{kept_through}
use Rattle.loop_bounds.proofs.SoFar.{IsLeastSoFar, IsGreatestSoFar}
use Rattle.loop_bounds.specs.declared.linear.Term.{Term}
use Rattle.loop_bounds.specs.declared.variable.Variable.{Variable}
use Rattle.loop_bounds.specs.Linear.{LinearView, total, value, IsLinear}
use Rattle.loop_bounds.specs.Effect.{Valuation, whole}
use Rattle.loop_bounds.specs.Ranges.{Box}
use Rattle.loop_bounds.specs.Form.{weight, least_total, end_of}
use Rattle.loop_bounds.proofs.FormLemmas.{abs_sum}
use Rattle.loop_bounds.proofs.Boxes.{multiple_bound}
use Rattle.loop_bounds.specs.Tighten.{quotient_up, multiples_between, balancing, top_of, greatest_total, share_left, tightened_from, tightened, after_last_cut_from}

pub between_multiples : (from to : ℤ) (factor : ℕ) (r : RangeView) (low high : ℕ) (result : Option RangeView) → pos 0 ≤ℤ to → low ≡ max r.low (quotient_up from factor) → high ≡ min r.high (unsigned_abs to / factor) → result ≡ between low high → result ≡ multiples_between from to factor r
between_multiples from (pos n) factor r low high result h e f is =
    is ∙ ap (λ a. between a high) e ∙ ap (λ b. between (max r.low (quotient_up from factor)) b) f
between_multiples from (negsuc n) factor r low high result h e f is = absurd (omega (arith, ints))

greatest_total_push : (box : Box) (ts : List Term) (t : Term) → greatest_total box (ts ++ t ∷ []) ≡ greatest_total box ts +ℤ t.coefficient *ℤ pos (top_of (box t.variable) t.coefficient)
greatest_total_push box [] t = omega (arith, ints)
greatest_total_push box (u ∷ ts) t = omega (arith, ints, greatest_total_push box ts t)

pub greatest_none : (box : Box) → IsGreatestSoFar box [] (pos 0)
greatest_none box = record { exact = refl; size = omega arith }

greatest_push : (box : Box) (ts : List Term) (t : Term) (r : RangeView) (greatest m : ℤ) → IsGreatestSoFar box ts greatest → r ≡ box t.variable → m ≡ t.coefficient *ℤ pos (top_of r t.coefficient) → unsigned_abs m ≤ 65535 * unsigned_abs t.coefficient → IsGreatestSoFar box (ts ++ t ∷ []) (greatest +ℤ m)
greatest_push box ts t r greatest m h e is small =
    let here : m ≡ t.coefficient *ℤ pos (top_of (box t.variable) t.coefficient) = is ∙ ap (λ (q : RangeView). t.coefficient *ℤ pos (top_of q t.coefficient)) e in
    let heavier = sum_by-append (λ (u : Term). unsigned_abs u.coefficient) ts (t ∷ []) in
    let sum : unsigned_abs (greatest +ℤ m) ≤ unsigned_abs greatest + unsigned_abs m = abs_sum greatest m in
    record {
      exact = omega (arith, ints, h.exact, here, greatest_total_push box ts t);
      size = omega (arith, h.size, heavier);
    }

pub greatest_more : (box : Box) (ts : List Term) (k : ℕ) (t : Term) (r : RangeView) (greatest m : ℤ) → IsGreatestSoFar box (take k ts) greatest → k < length ts → t ≡ get_or ts k t → r ≡ box t.variable → m ≡ t.coefficient *ℤ pos (top_of r t.coefficient) → unsigned_abs m ≤ 65535 * unsigned_abs t.coefficient → IsGreatestSoFar box (take (k + 1) ts) (greatest +ℤ m)
greatest_more box ts k t r greatest m h inside at e is small =
    let more : take (k + 1) ts ≡ take k ts ++ t ∷ [] = take_more ts k t inside ∙ ap (λ (u : Term). take k ts ++ u ∷ []) (sym at) in
    rw more (greatest_push box (take k ts) t r greatest m h e is small)

pub greatest_fits : (box : Box) (ts : List Term) (k : ℕ) (greatest : ℤ) → IsGreatestSoFar box (take k ts) greatest → weight ts < 2 ^ 31 → unsigned_abs greatest < 2 ^ 61
greatest_fits box ts k greatest h light =
    let part = sum_by-take-le (λ (u : Term). unsigned_abs u.coefficient) ts k in
    omega (arith, h.size, part)

weight_below : (ts : List Term) → All (λ t. unsigned_abs t.coefficient ≤ 1000000) ts → weight ts ≤ 1000000 * length ts
weight_below [] h = omega arith
weight_below (t ∷ ts) h =
    let first = All-head (λ (u : Term). unsigned_abs u.coefficient ≤ 1000000) t ts h in
    let step = sum_by-append (λ (u : Term). unsigned_abs u.coefficient) (t ∷ []) ts in
    let rest = weight_below ts (All-tail (λ (u : Term). unsigned_abs u.coefficient ≤ 1000000) t ts h) in
    omega (arith, step, first, rest)

pub light_terms : (ts : List Term) → length ts ≤ 3 → All (λ t. unsigned_abs t.coefficient ≤ 1000000) ts → weight ts < 2 ^ 31
light_terms ts few small = omega (arith, weight_below ts small)

pub least_end : (box : Box) (ts : List Term) (k : ℕ) (least : ℤ) → IsLeastSoFar box (pos 0) (take k ts) least → length ts ≤ 3 → All (λ t. unsigned_abs t.coefficient ≤ 1000000) ts → unsigned_abs least < 2 ^ 40
least_end box ts k least h few small =
    let part = sum_by-take-le (λ (u : Term). unsigned_abs u.coefficient) ts k in
    omega (arith, h.size, part, weight_below ts small)

pub greatest_end : (box : Box) (ts : List Term) (k : ℕ) (greatest : ℤ) → IsGreatestSoFar box (take k ts) greatest → length ts ≤ 3 → All (λ t. unsigned_abs t.coefficient ≤ 1000000) ts → unsigned_abs greatest < 2 ^ 40
greatest_end box ts k greatest h few small =
    let part = sum_by-take-le (λ (u : Term). unsigned_abs u.coefficient) ts k in
    omega (arith, h.size, part, weight_below ts small)

-- ---- what the others leave
pub least_total-remove : (box : Box) (ts : List Term) (k : ℕ) (d : Term) → k < length ts → least_total box ts ≡ least_total box (remove ts k) +ℤ (get_or ts k d).coefficient *ℤ pos (end_of (box (get_or ts k d).variable) (get_or ts k d).coefficient)
least_total-remove box [] k d h = absurd (omega arith)
least_total-remove box (t ∷ ts) zero d h = omega (arith, ints)
least_total-remove box (t ∷ ts) (suc k) d h = omega (arith, ints, least_total-remove box ts k d (omega arith))

pub greatest_total-remove : (box : Box) (ts : List Term) (k : ℕ) (d : Term) → k < length ts → greatest_total box ts ≡ greatest_total box (remove ts k) +ℤ (get_or ts k d).coefficient *ℤ pos (top_of (box (get_or ts k d).variable) (get_or ts k d).coefficient)
greatest_total-remove box [] k d h = absurd (omega arith)
greatest_total-remove box (t ∷ ts) zero d h = omega (arith, ints)
greatest_total-remove box (t ∷ ts) (suc k) d h = omega (arith, ints, greatest_total-remove box ts k d (omega arith))

pub share_is : (box : Box) (fact : LinearView) (k : ℕ) (t : Term) (r : RangeView) (low high least greatest lowest highest : ℤ) (result : Option RangeView) → k < length fact.terms → t ≡ get_or fact.terms k t → r ≡ box t.variable → least ≡ least_total box fact.terms → greatest ≡ greatest_total box fact.terms → lowest ≡ t.coefficient *ℤ pos (end_of r t.coefficient) → highest ≡ t.coefficient *ℤ pos (top_of r t.coefficient) → low ≡ fact.constant +ℤ least -ℤ lowest → high ≡ fact.constant +ℤ greatest -ℤ highest → result ≡ balancing t.coefficient low high r → result ≡ share_left fact box k t
share_is box fact k t r low high least greatest lowest highest result inside at e is_least is_greatest is_lowest is_highest is_low is_high is =
    let end = ap (λ (q : RangeView). t.coefficient *ℤ pos (end_of q t.coefficient)) e in
    let top = ap (λ (q : RangeView). t.coefficient *ℤ pos (top_of q t.coefficient)) e in
    let before : least_total box fact.terms ≡ least_total box (remove fact.terms k) +ℤ t.coefficient *ℤ pos (end_of (box t.variable) t.coefficient) =
    least_total-remove box fact.terms k t inside ∙ ap (λ (u : Term). least_total box (remove fact.terms k) +ℤ u.coefficient *ℤ pos (end_of (box u.variable) u.coefficient)) (sym at) in
    let after : greatest_total box fact.terms ≡ greatest_total box (remove fact.terms k) +ℤ t.coefficient *ℤ pos (top_of (box t.variable) t.coefficient) =
    greatest_total-remove box fact.terms k t inside ∙ ap (λ (u : Term). greatest_total box (remove fact.terms k) +ℤ u.coefficient *ℤ pos (top_of (box u.variable) u.coefficient)) (sym at) in
    let l : low ≡ fact.constant +ℤ least_total box (remove fact.terms k) = omega (arith, ints, before, end, is_least, is_lowest, is_low) in
    let h : high ≡ fact.constant +ℤ greatest_total box (remove fact.terms k) = omega (arith, ints, after, top, is_greatest, is_highest, is_high) in
    is ∙ ap (λ z. balancing t.coefficient z high r) l ∙ ap (λ z. balancing t.coefficient (fact.constant +ℤ least_total box (remove fact.terms k)) z r) h
    ∙ ap (λ (q : RangeView). balancing t.coefficient (fact.constant +ℤ least_total box (remove fact.terms k)) (fact.constant +ℤ greatest_total box (remove fact.terms k)) q) e

-- ---- no value at which the linear is 0 is lost
pub total-remove : (x : Variable → ℤ) (ts : List Term) (k : ℕ) (d : Term) → k < length ts → total x ts ≡ total x (remove ts k) +ℤ (get_or ts k d).coefficient *ℤ x (get_or ts k d).variable
total-remove x [] k d h = absurd (omega arith)
total-remove x (t ∷ ts) zero d h = omega (arith, ints)
total-remove x (t ∷ ts) (suc k) d h = omega (arith, ints, total-remove x ts k d (omega arith))

multiple_below_top : (c : ℤ) (r : RangeView) (x : ℕ) → Within r x → (c *ℤ pos x) ≤ℤ (c *ℤ pos (top_of r c))
multiple_below_top (pos n) r x h =
    rw (pos-*ℤ-pos n r.high, pos-*ℤ-pos n x) (omega (arith, ints, mul-le n x n r.high (omega arith) h.1))
multiple_below_top (negsuc n) r x h =
    rw (negsuc-*ℤ-pos n r.low, negsuc-*ℤ-pos n x) (omega (arith, ints, mul-le (suc n) r.low (suc n) x (omega arith) h.0))

total_above_least : (box : Box) (x : Valuation) → ((v : Variable) → Within (box v) (x v)) → (ts : List Term) → least_total box ts ≤ℤ total (whole x) ts
total_above_least box x h [] = omega (arith, ints)
total_above_least box x h (t ∷ ts) =
    omega (arith, ints, multiple_bound t.coefficient (box t.variable) (x t.variable) (h t.variable), total_above_least box x h ts)

total_below_greatest : (box : Box) (x : Valuation) → ((v : Variable) → Within (box v) (x v)) → (ts : List Term) → total (whole x) ts ≤ℤ greatest_total box ts
total_below_greatest box x h [] = omega (arith, ints)
total_below_greatest box x h (t ∷ ts) =
    omega (arith, ints, multiple_below_top t.coefficient (box t.variable) (x t.variable) (h t.variable), total_below_greatest box x h ts)

quotient_up_below : (z : ℤ) (factor n : ℕ) → 0 < factor → z ≤ℤ pos (factor * n) → quotient_up z factor ≤ n
quotient_up_below (negsuc z) factor n h k = omega arith
quotient_up_below (pos z) factor n h k =
    let times = div_ceil_times z factor h in
    let below : z ≤ factor * n = omega (arith, ints) in
    elim (cases_lt n (z / factor + min 1 (z % factor))) [
      | inl over ↦ absurd (omega (arith, times.1, mul-le (suc n) factor (z / factor + min 1 (z % factor)) factor over (omega arith)))
      | inr fine ↦ fine
    ]

in_both : (a b : RangeView) (n : ℕ) → Within a n → Within b n → IsSomeAnd (intersection a b) (λ r. Within r n)
in_both a b n p q = grind (arith, nat_tests)

multiples_keep : (from to : ℤ) (factor : ℕ) (r : RangeView) (n : ℕ) → 0 < factor → Within r n → from ≤ℤ pos (factor * n) → pos (factor * n) ≤ℤ to → IsSomeAnd (multiples_between from to factor r) (λ q. Within q n)
multiples_keep from (pos m) factor r n h inside low high =
    let up = quotient_up_below from factor n h low in
    let down : n ≤ m / factor = le-div n m factor h (omega (arith, ints)) in
    in_both r (record { low = quotient_up from factor; high = m / factor }) n inside (up, down)
multiples_keep from (negsuc m) factor r n h inside low high = absurd (omega (arith, ints))

balancing_keep : (c low high : ℤ) (r : RangeView) (n : ℕ) → 0 < unsigned_abs c → Within r n → (low +ℤ c *ℤ pos n) ≤ℤ pos 0 → pos 0 ≤ℤ (high +ℤ c *ℤ pos n) → IsSomeAnd (balancing c low high r) (λ q. Within q n)
balancing_keep (pos f) low high r n h inside below above =
    let product = pos-*ℤ-pos f n in
    multiples_keep (neg_ℤ high) (neg_ℤ low) f r n h inside (omega (arith, ints, product)) (omega (arith, ints, product))
balancing_keep (negsuc f) low high r n h inside below above =
    let product = negsuc-*ℤ-pos f n in
    multiples_keep low high (suc f) r n h inside (omega (arith, ints, product)) (omega (arith, ints, product))

pub share_keep : (box : Box) (fact : LinearView) (k : ℕ) (t : Term) (x : Valuation) → IsLinear fact → k < length fact.terms → t ≡ get_or fact.terms k t → ((v : Variable) → Within (box v) (x v)) → value (whole x) fact ≡ pos 0 → IsSomeAnd (share_left fact box k t) (λ q. Within q (x t.variable))
share_keep box fact k t x linear inside at within none =
    let others = remove fact.terms k in
    let split : total (whole x) fact.terms ≡ total (whole x) others +ℤ t.coefficient *ℤ pos (x t.variable) =
    total-remove (whole x) fact.terms k t inside ∙ ap (λ (u : Term). total (whole x) others +ℤ u.coefficient *ℤ pos (x u.variable)) (sym at) in
    let above = total_above_least box x within others in
    let below = total_below_greatest box x within others in
    let size : 0 < unsigned_abs t.coefficient = subst (λ (u : Term). 0 < unsigned_abs u.coefficient) (sym at) (let both = linear.coefficients k t inside in both.0) in
    balancing_keep t.coefficient (fact.constant +ℤ least_total box others) (fact.constant +ℤ greatest_total box others) (box t.variable) (x t.variable) size (within t.variable)
    (omega (arith, ints, split, above, none)) (omega (arith, ints, split, below, none))

-- ---- the terms in their order
module _ {S : Type 0} (range_of : S → Box) (cut_to : S → Variable → RangeView → Option S) (fact : LinearView) (items : List Term) (k : ℕ) (t : Term) (s : S) (inside : k < length items) (at : t ≡ get_or items k t) where
  rest_is : tightened_from range_of cut_to fact k (drop k items) s ≡ tightened_from range_of cut_to fact k (t ∷ drop (k + 1) items) s
  rest_is =
      let here : drop k items ≡ t ∷ drop (k + 1) items = rw (add-one, drop-cons items k t) (ap (λ (u : Term). u ∷ drop (suc k) items) (sym at)) in
      ap (λ (ts : List Term). tightened_from range_of cut_to fact k ts s) here

  pub goes_on : (left : RangeView) (next : S) → share_left fact (range_of s) k t ≡ Some left → cut_to s t.variable left ≡ Some next → tightened_from range_of cut_to fact k (drop k items) s ≡ tightened_from range_of cut_to fact (k + 1) (drop (k + 1) items) next
  goes_on left next e f = rest_is ∙ rw (e, f) refl

  rest_after : after_last_cut_from range_of cut_to fact k (drop k items) s ≡ after_last_cut_from range_of cut_to fact k (t ∷ drop (k + 1) items) s
  rest_after =
      let here : drop k items ≡ t ∷ drop (k + 1) items = rw (add-one, drop-cons items k t) (ap (λ (u : Term). u ∷ drop (suc k) items) (sym at)) in
      ap (λ (ts : List Term). after_last_cut_from range_of cut_to fact k ts s) here

  pub goes_after : (left : RangeView) (next : S) → share_left fact (range_of s) k t ≡ Some left → cut_to s t.variable left ≡ Some next → after_last_cut_from range_of cut_to fact k (drop k items) s ≡ after_last_cut_from range_of cut_to fact (k + 1) (drop (k + 1) items) next
  goes_after left next e f = rest_after ∙ rw (e, f) refl

  pub no_share_after : share_left fact (range_of s) k t ≡ None → after_last_cut_from range_of cut_to fact k (drop k items) s ≡ s
  no_share_after e = rest_after ∙ rw e refl

  pub no_cut_after : (left : RangeView) → share_left fact (range_of s) k t ≡ Some left → cut_to s t.variable left ≡ None → after_last_cut_from range_of cut_to fact k (drop k items) s ≡ s
  no_cut_after left e f = rest_after ∙ rw (e, f) refl

pub share_kept : (box : Box) (fact : LinearView) (items : List Term) (k : ℕ) (t : Term) (x : Valuation) → items ≡ fact.terms → IsLinear fact → k < length items → t ≡ get_or items k t → ((v : Variable) → Within (box v) (x v)) → value (whole x) fact ≡ pos 0 → IsSomeAnd (share_left fact box k t) (λ q. Within q (x t.variable))
share_kept box fact items k t x same linear inside at within none =
    share_keep box fact k t x linear (subst (λ (ts : List Term). k < length ts) same inside) (subst (λ (ts : List Term). t ≡ get_or ts k t) same at) within none

pub kept_some : {X : Type 0} (o : Option X) (x : X) (P : X → Type 0) → o ≡ Some x → IsSomeAnd o P → P x
kept_some o x P e h = rw e at h

pub kept_none : {X : Type 0} (o : Option X) (P : X → Type 0) → o ≡ None → IsSomeAnd o P → ⊥
kept_none o P e h = rw e at h

-- ---- the whole fact, stated of the definition for the proofs of the crates above
module _ {S : Type 0} (range_of : S → Box) (cut_to : S → Variable → RangeView → Option S) (holds : S → Valuation → Type 0) (in_ranges : (s : S) (x : Valuation) (v : Variable) → holds s x → Within (range_of s v) (x v)) (keeps : (s : S) (x : Valuation) (v : Variable) (to : RangeView) → holds s x → Within to (x v) → IsSomeAnd (cut_to s v to) (λ t. holds t x)) (fact : LinearView) (linear : IsLinear fact) (x : Valuation) (none : value (whole x) fact ≡ pos 0) where
  tightened_from_keeps : (ts : List Term) (k : ℕ) (s : S) → drop k fact.terms ≡ ts → holds s x → IsSomeAnd (tightened_from range_of cut_to fact k ts s) (λ t. holds t x)
  tightened_from_keeps [] k s e h = h
  tightened_from_keeps (t ∷ ts) k s e h =
      let long : length (drop k fact.terms) ≡ suc (length ts) = ap length e in
      let inside : k < length fact.terms = omega (arith, long, length-drop k fact.terms) in
      let parts : drop k fact.terms ≡ get_or fact.terms k t ∷ drop (suc k) fact.terms = drop-cons fact.terms k t inside in
      let both : get_or fact.terms k t ∷ drop (suc k) fact.terms ≡ t ∷ ts = sym parts ∙ e in
      let at : t ≡ get_or fact.terms k t = cc in
      let rest : drop (k + 1) fact.terms ≡ ts = let there : drop (suc k) fact.terms ≡ ts = cc in rw add-one there in
      let share = share_keep (range_of s) fact k t x linear inside at (λ v. in_ranges s x v h) none in
      kept_through (share_left fact (range_of s) k t) (λ (q : RangeView). Within q (x t.variable)) _ (λ u. holds u x) share
      (λ left in_left. kept_through (cut_to s t.variable left) (λ u. holds u x) _ (λ u. holds u x) (keeps s x t.variable left h in_left)
      (λ next held. tightened_from_keeps ts (k + 1) next rest held))

  pub tightened_keeps : (s : S) → holds s x → IsSomeAnd (tightened range_of cut_to fact s) (λ t. holds t x)
  tightened_keeps s h = tightened_from_keeps fact.terms 0 s refl h
