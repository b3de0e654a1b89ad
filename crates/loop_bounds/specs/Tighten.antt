-- Tightening by a fact (docs/CHECKER.md, "Linear bounds, effects and tightening").
use Rattle.std.specs.Prelude.{ℕ, suc, ◌+◌, ◌/◌, List, [], ◌∷◌, remove, ℤ, pos, negsuc, neg_ℤ, ◌+ℤ◌, ◌*ℤ◌, Option, Some, None, option_and_then, option_map, unwrap_or}
use Rattle.std.specs.Int.{div_ceil}
use Rattle.intervals.specs.Range.{RangeView, intersection}
use Rattle.loop_bounds.specs.declared.linear.Term.{Term}
use Rattle.loop_bounds.specs.declared.variable.Variable.{Variable}
use Rattle.loop_bounds.specs.Linear.{LinearView}
use Rattle.loop_bounds.specs.Ranges.{Box}
use Rattle.loop_bounds.specs.Form.{least_total}

-- the end of a range at which the product with the coefficient is greatest
abbrev pub top_of : RangeView → ℤ → ℕ
top_of r (pos n) = r.high
top_of r (negsuc n) = r.low

-- the sum of the terms, each at the end where it is greatest
abbrev pub greatest_total : Box → List Term → ℤ
greatest_total box [] = pos 0
greatest_total box (t ∷ ts) = t.coefficient *ℤ pos (top_of (box t.variable) t.coefficient) +ℤ greatest_total box ts

-- the least natural number whose product with the factor is not below the integer
abbrev pub quotient_up : ℤ → ℕ → ℕ
quotient_up (pos z) factor = div_ceil z factor
quotient_up (negsuc z) factor = 0

-- the values of a range whose product with the factor lies between two integers
abbrev pub multiples_between : ℤ → ℤ → ℕ → RangeView → Option RangeView
multiples_between from (pos to) factor r = intersection r (record { low = quotient_up from factor; high = to / factor })
multiples_between from (negsuc to) factor r = None

-- the values of a range whose product with the coefficient becomes 0 when some number from `low` to `high` is added
abbrev pub balancing : ℤ → ℤ → ℤ → RangeView → Option RangeView
balancing (pos factor) low high r = multiples_between (neg_ℤ high) (neg_ℤ low) factor r
balancing (negsuc factor) low high r = multiples_between low high (suc factor) r

-- what the constant and the other terms leave of the range of the term at a place
abbrev pub share_left : LinearView → Box → ℕ → Term → Option RangeView
share_left fact box place t =
    balancing t.coefficient
    (fact.constant +ℤ least_total box (remove fact.terms place))
    (fact.constant +ℤ greatest_total box (remove fact.terms place))
    (box t.variable)

-- the terms from a place on are cut in their order, and each cut sees the ones before it; None if nothing is left
abbrev pub tightened_from : {S : Type 0} → (S → Box) → (S → Variable → RangeView → Option S) → LinearView → ℕ → List Term → S → Option S
tightened_from range_of cut_to fact place [] s = Some s
tightened_from range_of cut_to fact place (t ∷ ts) s =
    option_and_then (λ left.
    option_and_then (λ next. tightened_from range_of cut_to fact (place + 1) ts next) (cut_to s t.variable left))
    (share_left fact (range_of s) place t)

-- all variables of the fact are cut
abbrev pub tightened : {S : Type 0} → (S → Box) → (S → Variable → RangeView → Option S) → LinearView → S → Option S
tightened range_of cut_to fact s = tightened_from range_of cut_to fact 0 fact.terms s

-- the state after the last cut that left anything, from a place on
abbrev pub after_last_cut_from : {S : Type 0} → (S → Box) → (S → Variable → RangeView → Option S) → LinearView → ℕ → List Term → S → S
after_last_cut_from range_of cut_to fact place [] s = s
after_last_cut_from range_of cut_to fact place (t ∷ ts) s =
    unwrap_or (option_and_then (λ left.
    option_map (λ next. after_last_cut_from range_of cut_to fact (place + 1) ts next) (cut_to s t.variable left))
    (share_left fact (range_of s) place t)) s

-- the state after the last cut that left anything
abbrev pub after_last_cut : {S : Type 0} → (S → Box) → (S → Variable → RangeView → Option S) → LinearView → S → S
after_last_cut range_of cut_to fact s = after_last_cut_from range_of cut_to fact 0 fact.terms s
