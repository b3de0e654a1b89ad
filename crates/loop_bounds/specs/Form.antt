-- Sums of terms with distinct variables, as the tests compute them.
use Rattle.std.specs.Prelude.{◌≡◌, ◌≢◌, ℕ, ◌≤◌, List, [], ◌∷◌, length, take, ℤ, pos, negsuc, ◌+ℤ◌, ◌*ℤ◌, unsigned_abs, sum_by, AllPairs}
use Rattle.intervals.specs.Range.{RangeView}
use Rattle.loop_bounds.specs.declared.linear.Term.{Term}
use Rattle.loop_bounds.specs.Ranges.{Box}

-- no two terms have the same variable
abbrev pub AreDistinct : List Term → Type 0
AreDistinct ts = AllPairs (λ t u. t.variable ≢ u.variable) ts

-- the sum of the absolute values of the coefficients
abbrev pub weight : List Term → ℕ
weight ts = sum_by (λ t. unsigned_abs t.coefficient) ts

-- the end of a range at which the product with the coefficient is least
abbrev pub end_of : RangeView → ℤ → ℕ
end_of r (pos n) = r.low
end_of r (negsuc n) = r.high

-- the sum of the terms, each at the end where it is least
abbrev pub least_total : Box → List Term → ℤ
least_total box [] = pos 0
least_total box (t ∷ ts) = t.coefficient *ℤ pos (end_of (box t.variable) t.coefficient) +ℤ least_total box ts

-- the first `count` of nine places hold the terms
pub record IsForm (terms : List Term) (count : ℕ) : Type 0 where
  pub places : length terms ≡ 9
  pub within : count ≤ 9
  pub distinct : AreDistinct (take count terms)
