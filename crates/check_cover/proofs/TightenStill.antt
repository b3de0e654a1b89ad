-- A state that covers another still covers it when both are tightened by a fact.
use Rattle.std.proofs.Common.{◌≡◌, ℕ, zero, suc, ◌+◌, ◌*◌, ◌/◌, ◌%◌, ◌<◌, ◌≤◌, min, max, inl, inr, List, [], ◌∷◌, length, remove, ℤ, pos, negsuc, neg_ℤ, ◌+ℤ◌, ◌*ℤ◌, ◌≤ℤ◌, Option, Some, None, refl, sym, subst, arith}
use Rattle.std.specs.Int.{div_ceil}
use Rattle.std.specs.Prelude.{option_and_then}
use Rattle.std.proofs.Math.IntN.{pos-*ℤ-pos, negsuc-*ℤ-pos}
use Rattle.std.proofs.lemmas.Int.{ints}
use Rattle.std.proofs.lemmas.Nat.{mul-le, le-div, div-add-mod'}
use native.Mathlib.Nat.{div-zero, mod-zero}
use Rattle.std.proofs.lemmas.Grind.{div_ceil_times}
use Rattle.std.proofs.lemmas.Bool.{cases_lt}
use Rattle.intervals.specs.Range.{Covers, RangeView, intersection}
use Rattle.loop_bounds.specs.declared.linear.Term.{Term}
use Rattle.loop_bounds.specs.declared.variable.Variable.{Variable}
use Rattle.loop_bounds.specs.Linear.{LinearView}
use Rattle.loop_bounds.specs.Ranges.{Box}
use Rattle.loop_bounds.specs.Form.{least_total, end_of}
use Rattle.loop_bounds.specs.Tighten.{balancing, greatest_total, multiples_between, quotient_up, share_left, tightened_from, tightened, top_of}
use Rattle.check_cover.proofs.CutsStill.{Still, still_then, cut_still}

-- ---- quotients

div_still : (a b k : ℕ) → a ≤ b → a / k ≤ b / k
div_still a b zero h = omega (arith, div-zero a, div-zero b)
div_still a b (suc k) h = le-div (a / suc k) b (suc k) (omega arith) (omega (arith, div-add-mod' a (suc k)))

ceil_least : (a k n : ℕ) → 0 < k → a ≤ k * n → div_ceil a k ≤ n
ceil_least a k n h below =
    let times = div_ceil_times a k h in
    elim (cases_lt n (div_ceil a k)) [
      | inl over ↦ absurd (omega (arith, times.1, mul-le (suc n) k (div_ceil a k) k over (omega arith)))
      | inr fine ↦ fine
    ]

ceil_still : (a b k : ℕ) → a ≤ b → div_ceil a k ≤ div_ceil b k
ceil_still a b zero below = omega (arith, div-zero a, div-zero b, mod-zero a, mod-zero b)
ceil_still a b (suc k) below = ceil_least a (suc k) (div_ceil b (suc k)) (omega arith) (omega (arith, div_ceil_times b (suc k) (omega arith)))

quotient_still : (a b : ℤ) (k : ℕ) → a ≤ℤ b → quotient_up a k ≤ quotient_up b k
quotient_still (pos a) (pos b) k below = ceil_still a b k (omega (arith, ints))
quotient_still (pos a) (negsuc b) k below = absurd (omega (arith, ints))
quotient_still (negsuc a) (pos b) k below = omega arith
quotient_still (negsuc a) (negsuc b) k below = omega arith

multiples_still : (from to low high : ℤ) (k : ℕ) (r s : RangeView) → from ≤ℤ low → high ≤ℤ to → Covers r s → Still Covers (multiples_between from to k r) (multiples_between low high k s)
multiples_still from (pos to) low (pos high) k r s down up within =
    cut_still r (record { low = quotient_up from k; high = to / k }) s (record { low = quotient_up low k; high = high / k }) within
    (quotient_still from low k down, div_still high to k (omega (arith, ints)))
multiples_still from (negsuc to) low (pos high) k r s down up within = absurd (omega (arith, ints))
multiples_still from (pos to) low (negsuc high) k r s down up within = tt
multiples_still from (negsuc to) low (negsuc high) k r s down up within = tt

balancing_still : (c least greatest low high : ℤ) (r s : RangeView) → least ≤ℤ low → high ≤ℤ greatest → Covers r s → Still Covers (balancing c least greatest r) (balancing c low high s)
balancing_still (pos k) least greatest low high r s down up within =
    multiples_still (neg_ℤ greatest) (neg_ℤ least) (neg_ℤ high) (neg_ℤ low) k r s (omega (arith, ints)) (omega (arith, ints)) within
balancing_still (negsuc k) least greatest low high r s down up within =
    multiples_still least greatest low high (suc k) r s down up within

-- ---- totals

end_still : (c : ℤ) (r s : RangeView) → Covers r s → (c *ℤ pos (end_of r c)) ≤ℤ (c *ℤ pos (end_of s c))
end_still (pos n) r s h = rw (pos-*ℤ-pos n r.low, pos-*ℤ-pos n s.low) (omega (arith, ints, mul-le n r.low n s.low (omega arith) h.0))
end_still (negsuc n) r s h = rw (negsuc-*ℤ-pos n r.high, negsuc-*ℤ-pos n s.high) (omega (arith, ints, mul-le (suc n) s.high (suc n) r.high (omega arith) h.1))

top_still : (c : ℤ) (r s : RangeView) → Covers r s → (c *ℤ pos (top_of s c)) ≤ℤ (c *ℤ pos (top_of r c))
top_still (pos n) r s h = rw (pos-*ℤ-pos n s.high, pos-*ℤ-pos n r.high) (omega (arith, ints, mul-le n s.high n r.high (omega arith) h.1))
top_still (negsuc n) r s h = rw (negsuc-*ℤ-pos n s.low, negsuc-*ℤ-pos n r.low) (omega (arith, ints, mul-le (suc n) r.low (suc n) s.low (omega arith) h.0))

module _ (wide narrow : Box) (within : (v : Variable) → Covers (wide v) (narrow v)) where
  least_still : (ts : List Term) → least_total wide ts ≤ℤ least_total narrow ts
  least_still [] = omega (arith, ints)
  least_still (t ∷ ts) = omega (arith, ints, end_still t.coefficient (wide t.variable) (narrow t.variable) (within t.variable), least_still ts)

  greatest_still : (ts : List Term) → greatest_total narrow ts ≤ℤ greatest_total wide ts
  greatest_still [] = omega (arith, ints)
  greatest_still (t ∷ ts) = omega (arith, ints, top_still t.coefficient (wide t.variable) (narrow t.variable) (within t.variable), greatest_still ts)

  share_still : (fact : LinearView) (place : ℕ) (t : Term) → Still Covers (share_left fact wide place t) (share_left fact narrow place t)
  share_still fact place t =
      balancing_still t.coefficient _ _ _ _ (wide t.variable) (narrow t.variable)
      (omega (arith, ints, least_still (remove fact.terms place))) (omega (arith, ints, greatest_still (remove fact.terms place))) (within t.variable)

-- ---- states

module _ {S : Type 0} (range_of : S → Box) (cut_to : S → Variable → RangeView → Option S) (R : S → S → Type 0)
    (ranges : (s t : S) → R s t → (v : Variable) → Covers (range_of s v) (range_of t v))
    (cuts : (s t : S) (v : Variable) (a b : RangeView) → R s t → Covers a b → Still R (cut_to s v a) (cut_to t v b)) where
  from_still : (fact : LinearView) (place : ℕ) (ts : List Term) (s t : S) → R s t → Still R (tightened_from range_of cut_to fact place ts s) (tightened_from range_of cut_to fact place ts t)
  from_still fact place [] s t h = h
  from_still fact place (u ∷ us) s t h =
      still_then Covers R _ _ _ _ (share_still (range_of s) (range_of t) (ranges s t h) fact place u)
      (λ a b within. still_then R R _ _ _ _ (cuts s t u.variable a b h within) (λ x y k. from_still fact (place + 1) us x y k))

  pub tightened_still : (fact : LinearView) (s t : S) → R s t → Still R (tightened range_of cut_to fact s) (tightened range_of cut_to fact t)
  tightened_still fact s t h = from_still fact 0 fact.terms s t h
