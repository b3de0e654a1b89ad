-- The values of a linear lie between its extremes.
use Rattle.std.proofs.Common.{ℕ, zero, suc, ◌<◌, List, [], ◌∷◌, length, get_or, ℤ, pos, negsuc, ◌-ℤ◌, ◌*ℤ◌, ◌≤ℤ◌, arith}
use Rattle.std.proofs.Math.IntN.{pos-*ℤ-pos, negsuc-*ℤ-pos}
use Rattle.std.proofs.lemmas.Int.{ints}
use Rattle.std.proofs.lemmas.Nat.{mul-le}
use Rattle.intervals.specs.Range.{RangeView, Within}
use Rattle.loop_bounds.proofs.Boxes.{multiple_bound}
use Rattle.loop_bounds.specs.Effect.{Valuation, whole}
use Rattle.loop_bounds.specs.Form.{least_total, end_of}
use Rattle.loop_bounds.specs.Linear.{LinearView, total, value}
use Rattle.loop_bounds.specs.Ranges.{Box}
use Rattle.loop_bounds.specs.Tighten.{greatest_total, top_of}
use Rattle.loop_bounds.specs.declared.linear.Term.{Term}
use Rattle.loop_bounds.specs.declared.variable.Variable.{Variable}
use Rattle.linear_limits.specs.Extremes.{least_value, greatest_value}

product_below_top : (c : ℤ) (r : RangeView) (x : ℕ) → Within r x → (c *ℤ pos x) ≤ℤ (c *ℤ pos (top_of r c))
product_below_top (pos n) r x h =
    rw (pos-*ℤ-pos n r.high, pos-*ℤ-pos n x) (omega (arith, ints, mul-le n x n r.high (omega arith) h.1))
product_below_top (negsuc n) r x h =
    rw (negsuc-*ℤ-pos n r.low, negsuc-*ℤ-pos n x) (omega (arith, ints, mul-le (suc n) r.low (suc n) x (omega arith) h.0))

abbrev pub LiesWithin : Box → Valuation → Type 0
LiesWithin box x = (v : Variable) → Within (box v) (x v)

above_least : (box : Box) (x : Valuation) → LiesWithin box x → (ts : List Term) → least_total box ts ≤ℤ total (whole x) ts
above_least box x h [] = omega (arith, ints)
above_least box x h (t ∷ ts) =
    omega (arith, ints, multiple_bound t.coefficient (box t.variable) (x t.variable) (h t.variable), above_least box x h ts)

below_greatest : (box : Box) (x : Valuation) → LiesWithin box x → (ts : List Term) → total (whole x) ts ≤ℤ greatest_total box ts
below_greatest box x h [] = omega (arith, ints)
below_greatest box x h (t ∷ ts) =
    omega (arith, ints, product_below_top t.coefficient (box t.variable) (x t.variable) (h t.variable), below_greatest box x h ts)

pub above_least_value : (box : Box) (s : LinearView) (x : Valuation) → LiesWithin box x → least_value box s ≤ℤ value (whole x) s
above_least_value box s x h = omega (arith, ints, above_least box x h s.terms)

pub below_greatest_value : (box : Box) (s : LinearView) (x : Valuation) → LiesWithin box x → value (whole x) s ≤ℤ greatest_value box s
below_greatest_value box s x h = omega (arith, ints, below_greatest box x h s.terms)

-- ---- the sum of the other terms

pub others_above : (box : Box) (x : Valuation) → LiesWithin box x → (ts : List Term) (k : ℕ) (d : Term) → k < length ts → (least_total box ts -ℤ (get_or ts k d).coefficient *ℤ pos (end_of (box (get_or ts k d).variable) (get_or ts k d).coefficient)) ≤ℤ (total (whole x) ts -ℤ (get_or ts k d).coefficient *ℤ pos (x (get_or ts k d).variable))
others_above box x h [] k d p = absurd (omega arith)
others_above box x h (t ∷ ts) zero d p = omega (arith, ints, above_least box x h ts)
others_above box x h (t ∷ ts) (suc k) d p =
    omega (arith, ints, multiple_bound t.coefficient (box t.variable) (x t.variable) (h t.variable), others_above box x h ts k d (omega arith))

pub others_below : (box : Box) (x : Valuation) → LiesWithin box x → (ts : List Term) (k : ℕ) (d : Term) → k < length ts → (total (whole x) ts -ℤ (get_or ts k d).coefficient *ℤ pos (x (get_or ts k d).variable)) ≤ℤ (greatest_total box ts -ℤ (get_or ts k d).coefficient *ℤ pos (top_of (box (get_or ts k d).variable) (get_or ts k d).coefficient))
others_below box x h [] k d p = absurd (omega arith)
others_below box x h (t ∷ ts) zero d p = omega (arith, ints, below_greatest box x h ts)
others_below box x h (t ∷ ts) (suc k) d p =
    omega (arith, ints, product_below_top t.coefficient (box t.variable) (x t.variable) (h t.variable), others_below box x h ts k d (omega arith))
