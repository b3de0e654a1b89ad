-- A linear that is below 0 exactly where another is not (docs/CHECKER.md, "Conditions of a step").
use Rattle.std.specs.Prelude.{nat_le, List, map, if◌then◌else◌, Option, Some, None, ℤ, negsuc, neg_ℤ, ◌-ℤ◌, unsigned_abs}
use Rattle.loop_bounds.specs.Linear.{LinearView}
use Rattle.loop_bounds.specs.declared.linear.Term.{Term}

-- the term with the other sign
abbrev pub negated : Term → Term
negated t = record t { coefficient = neg_ℤ t.coefficient }

-- a constant less the terms
abbrev pub with_negated : ℤ → List Term → LinearView
with_negated c ts = record { constant = c; terms = map negated ts }

-- -1 - L, if its constant is one of a linear
abbrev pub other_side : LinearView → Option LinearView
other_side s =
    if nat_le (unsigned_abs (negsuc 0 -ℤ s.constant)) 1000000000 then Some (with_negated (negsuc 0 -ℤ s.constant) s.terms) else None
