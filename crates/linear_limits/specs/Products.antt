-- The values of a range whose product with a coefficient has a bound (docs/CHECKER.md, "Narrowing by parts").
use Rattle.std.specs.Prelude.{ℕ, suc, ◌/◌, min, max, ℤ, pos, negsuc, neg_ℤ, Option, None}
use Rattle.intervals.specs.Range.{RangeView, between}
use Rattle.loop_bounds.specs.Tighten.{quotient_up}

-- the values of a range whose product with the factor is at most an integer
abbrev pub multiples_up_to : ℤ → ℕ → RangeView → Option RangeView
multiples_up_to (pos to) factor r = between r.low (min r.high (to / factor))
multiples_up_to (negsuc to) factor r = None

-- the values of a range whose product with the factor is at least an integer
abbrev pub multiples_from : ℤ → ℕ → RangeView → Option RangeView
multiples_from from factor r = between (max r.low (quotient_up from factor)) r.high

-- the values of a range whose product with the coefficient is at most an integer
abbrev pub products_up_to : ℤ → ℤ → RangeView → Option RangeView
products_up_to (pos factor) to r = multiples_up_to to factor r
products_up_to (negsuc factor) to r = multiples_from (neg_ℤ to) (suc factor) r

-- the values of a range whose product with the coefficient is at least an integer
abbrev pub products_from : ℤ → ℤ → RangeView → Option RangeView
products_from (pos factor) from r = multiples_from from factor r
products_from (negsuc factor) from r = multiples_up_to (neg_ℤ from) (suc factor) r
