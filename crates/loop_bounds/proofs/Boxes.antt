-- The least value of a sum over a box is a bound, and it is reached.
use Rattle.std.proofs.Common.{◌≡◌, ◌≢◌, ℕ, suc, ◌+◌, ◌*◌, ◌<◌, ◌≤◌, ◌^◌, Bool, true, false, cond, eqb, List, [], ◌∷◌, ◌++◌, length, get_or, take, ℤ, pos, negsuc, ◌+ℤ◌, ◌*ℤ◌, ◌≤ℤ◌, refl, sym, subst, ap, ◌∙◌, arith, rules, All, unsigned_abs, take_all}
use Rattle.std.proofs.Math.IntN.{pos-*ℤ-pos, negsuc-*ℤ-pos, +ℤ_idr}
use Rattle.std.proofs.lemmas.Int.{ints, unsigned_abs-mul}
use Rattle.std.proofs.lemmas.Nat.{mul-le}
use Rattle.std.proofs.lemmas.List.{take_more}
use Rattle.std.proofs.lemmas.List.Sums.{sum_by-append, sum_by-take-le}
use Rattle.loop_bounds.proofs.SoFar.{AreOrdered, IsLeastSoFar}
use Rattle.loop_bounds.proofs.FormLemmas.{abs_sum}
use Rattle.std.proofs.lemmas.List.Elements.{All-head, All-tail}
use Rattle.intervals.specs.Range.{RangeView, Within}
use Rattle.loop_bounds.specs.declared.variable.Variable.{Variable}
use Rattle.loop_bounds.specs.declared.linear.Term.{Term}
use Rattle.loop_bounds.specs.Variable.{rank_of}
use Rattle.loop_bounds.specs.Linear.{LinearView, total, value}
use Rattle.loop_bounds.specs.Effect.{Valuation, whole}
use Rattle.loop_bounds.specs.Ranges.{Box, LiesIn}
use Rattle.loop_bounds.proofs.VariableLemmas.{same_from_rank, choice_same, choice_other}
use Rattle.loop_bounds.specs.Form.{AreDistinct, weight, end_of, least_total}

-- a product is least at its end
pub multiple_bound : (c : ℤ) (r : RangeView) (x : ℕ) → Within r x → (c *ℤ pos (end_of r c)) ≤ℤ (c *ℤ pos x)
multiple_bound (pos n) r x h =
    rw (pos-*ℤ-pos n r.low, pos-*ℤ-pos n x) (omega (arith, ints, mul-le n r.low n x (omega arith) h.0))
multiple_bound (negsuc n) r x h =
    rw (negsuc-*ℤ-pos n r.high, negsuc-*ℤ-pos n x) (omega (arith, ints, mul-le (suc n) x (suc n) r.high (omega arith) h.1))

pub least_bound : (box : Box) (ts : List Term) → AreOrdered box ts → (x : Valuation) → LiesIn box x → least_total box ts ≤ℤ total (whole x) ts
least_bound box [] ordered x inside = omega (arith, ints)
least_bound box (t ∷ ts) ordered x inside =
    let first = multiple_bound t.coefficient (box t.variable) (x t.variable) (inside t.variable ordered.0) in
    let rest = least_bound box ts ordered.1 x inside in
    omega (arith, ints, first, rest)

-- the valuation that has each variable of the terms at its end
worst : Box → List Term → Valuation
worst box [] v = (box v).low
worst box (t ∷ ts) v = cond (eqb (rank_of v) (rank_of t.variable)) (end_of (box t.variable) t.coefficient) (worst box ts v)

end_inside : (c : ℤ) (r : RangeView) → r.low ≤ r.high → Within r (end_of r c)
end_inside (pos n) r h = omega arith
end_inside (negsuc n) r h = omega arith

worst_inside : (box : Box) (ts : List Term) → LiesIn box (worst box ts)
unfolding worst
worst_inside box [] v h = omega arith
worst_inside box (t ∷ ts) v h =
    let at : (b : Bool) → eqb (rank_of v) (rank_of t.variable) ≡ b → Within (box v) (cond b (end_of (box t.variable) t.coefficient) (worst box ts v)) =
    elim [
      | true ↦ λ e. let same : v ≡ t.variable = same_from_rank v t.variable (search rules) in subst (λ w. Within (box v) (end_of (box w) t.coefficient)) same (end_inside t.coefficient (box v) h)
      | false ↦ λ e. worst_inside box ts v h
    ] in
    at (eqb (rank_of v) (rank_of t.variable)) refl

pub total_agree : (x y : Variable → ℤ) (ts : List Term) → All (λ t. x t.variable ≡ y t.variable) ts → total x ts ≡ total y ts
total_agree x y [] h = refl
total_agree x y (t ∷ ts) h =
    let first : x t.variable ≡ y t.variable = All-head (λ u. x u.variable ≡ y u.variable) t ts h in
    let rest = total_agree x y ts (All-tail (λ u. x u.variable ≡ y u.variable) t ts h) in
    ap (λ z. t.coefficient *ℤ z +ℤ total x ts) first ∙ ap (λ z. t.coefficient *ℤ y t.variable +ℤ z) rest

pub distinct_head : (t : Term) (ts : List Term) → AreDistinct (t ∷ ts) → All (λ u. t.variable ≢ u.variable) ts
distinct_head t ts h k d p = h 0 (suc k) d (omega arith) (omega arith)

pub distinct_tail : (t : Term) (ts : List Term) → AreDistinct (t ∷ ts) → AreDistinct ts
distinct_tail t ts h i j d p q = h (suc i) (suc j) d (omega arith) (omega arith)

worst_reached : (box : Box) (ts : List Term) → AreDistinct ts → total (whole (worst box ts)) ts ≡ least_total box ts
unfolding worst
worst_reached box [] h = refl
worst_reached box (t ∷ ts) h =
    let here : worst box (t ∷ ts) t.variable ≡ end_of (box t.variable) t.coefficient = choice_same t.variable t.variable _ _ refl in
    let others = distinct_head t ts h in
    let agree : total (whole (worst box (t ∷ ts))) ts ≡ total (whole (worst box ts)) ts =
    total_agree _ _ ts (λ k d p. ap pos (choice_other _ _ _ _ (λ e. others k d p (sym e)))) in
    ap (λ n. t.coefficient *ℤ pos n +ℤ total (whole (worst box (t ∷ ts))) ts) here
    ∙ ap (λ z. t.coefficient *ℤ pos (end_of (box t.variable) t.coefficient) +ℤ z) (agree ∙ worst_reached box ts (distinct_tail t ts h))

-- the least total over the box is reached
pub least_reached : (box : Box) (ts : List Term) → AreDistinct ts → (x : Valuation) × LiesIn box x × (total (whole x) ts ≡ least_total box ts)
least_reached box ts h = (worst box ts, worst_inside box ts, worst_reached box ts h)

least_total_push : (box : Box) (ts : List Term) (t : Term) → least_total box (ts ++ t ∷ []) ≡ least_total box ts +ℤ t.coefficient *ℤ pos (end_of (box t.variable) t.coefficient)
least_total_push box [] t = omega (arith, ints)
least_total_push box (u ∷ ts) t = omega (arith, ints, least_total_push box ts t)

pub multiple_size : (c : ℤ) (n : ℕ) → n ≤ 65535 → unsigned_abs (c *ℤ pos n) ≤ 65535 * unsigned_abs c
multiple_size c n h = rw unsigned_abs-mul (omega (arith, mul-le (unsigned_abs c) n (unsigned_abs c) 65535 (omega arith) h))

pub least_none : (box : Box) (c : ℤ) → IsLeastSoFar box c [] c
least_none box c = record { exact = sym (+ℤ_idr c); size = omega arith; ordered = tt }

ordered_push : (box : Box) (ts : List Term) (t : Term) → AreOrdered box ts → (box t.variable).low ≤ (box t.variable).high → AreOrdered box (ts ++ t ∷ [])
ordered_push box [] t h k = (k, tt)
ordered_push box (u ∷ ts) t h k = (h.0, ordered_push box ts t h.1 k)

pub least_push : (box : Box) (c : ℤ) (ts : List Term) (t : Term) (r : RangeView) (least m : ℤ) → IsLeastSoFar box c ts least → r ≡ box t.variable → m ≡ t.coefficient *ℤ pos (end_of r t.coefficient) → unsigned_abs m ≤ 65535 * unsigned_abs t.coefficient → r.low ≤ r.high → IsLeastSoFar box c (ts ++ t ∷ []) (least +ℤ m)
least_push box c ts t r least m h e is small order =
    let here : m ≡ t.coefficient *ℤ pos (end_of (box t.variable) t.coefficient) = is ∙ ap (λ (q : RangeView). t.coefficient *ℤ pos (end_of q t.coefficient)) e in
    let heavier = sum_by-append (λ (u : Term). unsigned_abs u.coefficient) ts (t ∷ []) in
    let sum : unsigned_abs (least +ℤ m) ≤ unsigned_abs least + unsigned_abs m = abs_sum least m in
    record {
      exact = omega (arith, ints, h.exact, here, least_total_push box ts t);
      size = omega (arith, h.size, heavier);
      ordered = ordered_push box ts t h.ordered (subst (λ (q : RangeView). q.low ≤ q.high) e order);
    }

pub least_more : (box : Box) (c : ℤ) (ts : List Term) (k : ℕ) (t : Term) (r : RangeView) (least m : ℤ) → IsLeastSoFar box c (take k ts) least → k < length ts → t ≡ get_or ts k t → r ≡ box t.variable → m ≡ t.coefficient *ℤ pos (end_of r t.coefficient) → unsigned_abs m ≤ 65535 * unsigned_abs t.coefficient → r.low ≤ r.high → IsLeastSoFar box c (take (k + 1) ts) (least +ℤ m)
least_more box c ts k t r least m h inside at e is small order =
    let more : take (k + 1) ts ≡ take k ts ++ t ∷ [] = take_more ts k t inside ∙ ap (λ (u : Term). take k ts ++ u ∷ []) (sym at) in
    rw more (least_push box c (take k ts) t r least m h e is small order)

-- the size of the least value, where the coefficients are not too great
pub least_fits : (box : Box) (c : ℤ) (ts : List Term) (k : ℕ) (least : ℤ) → IsLeastSoFar box c (take k ts) least → unsigned_abs c < 2 ^ 60 → weight ts < 2 ^ 31 → unsigned_abs least < 2 ^ 61
least_fits box c ts k least h small light =
    let part = sum_by-take-le (λ (u : Term). unsigned_abs u.coefficient) ts k in
    omega (arith, h.size, part)

module _ (box : Box) (s : LinearView) (ts : List Term) (k : ℕ) (least : ℤ) (h : IsLeastSoFar box s.constant (take k ts) least) (all : length ts ≤ k) (e : ts ≡ s.terms) where
  seen : take k ts ≡ s.terms
  seen = take_all k ts all ∙ e

  pub whole_bound : (x : Valuation) → LiesIn box x → least ≤ℤ value (whole x) s
  whole_bound x inside =
      let bound = least_bound box (take k ts) h.ordered x inside in
      let same : total (whole x) (take k ts) ≡ total (whole x) s.terms = ap (total (whole x)) seen in
      omega (arith, ints, h.exact, bound, same)

  pub whole_reached : AreDistinct ts → (x : Valuation) × LiesIn box x × (value (whole x) s ≡ least)
  whole_reached apart =
      let r = least_reached box s.terms (subst AreDistinct e apart) in
      let same : least_total box (take k ts) ≡ least_total box s.terms = ap (least_total box) seen in
      (r.0, r.1, omega (arith, ints, h.exact, same, r.2))
