-- Linears and their values (docs/CHECKER.md, "Linear bounds, effects and tightening").
use Rattle.std.specs.Prelude.{ℕ, ◌-◌, ◌≤◌, ◌<◌, List, [], ◌∷◌, ◌++◌, length, take, replicate, ◌≡◌, ℤ, pos, ◌+ℤ◌, ◌*ℤ◌, unsigned_abs, All, AllPairs}
use Rattle.loop_bounds.specs.declared.linear.Term.{Term}
use Rattle.loop_bounds.specs.declared.variable.Variable.{Variable}
use Rattle.loop_bounds.specs.declared.variable.Variable.TheVariants.{A}
use Rattle.loop_bounds.specs.Variable.{rank_of}

-- a constant and some terms
pub record LinearView : Type 0 where
  pub constant : ℤ
  pub terms : List Term

-- a linear that a certificate may have
pub record IsLinear (s : LinearView) : Type 0 where
  pub constant : unsigned_abs s.constant ≤ 1000000000
  pub count : length s.terms ≤ 3
  pub coefficients : All (λ t. (0 < unsigned_abs t.coefficient) × (unsigned_abs t.coefficient ≤ 1000000)) s.terms
  pub rising : AllPairs (λ t u. rank_of t.variable < rank_of u.variable) s.terms

-- the linear with one more term at its end
abbrev pub extended : LinearView → Term → LinearView
extended s t = record s { terms = s.terms ++ t ∷ [] }

-- the sum of the terms at these values
abbrev pub total : (Variable → ℤ) → List Term → ℤ
total x [] = pos 0
total x (t ∷ ts) = t.coefficient *ℤ x t.variable +ℤ total x ts

-- the value of the linear at these values of the variables
abbrev pub value : (Variable → ℤ) → LinearView → ℤ
value x s = s.constant +ℤ total x s.terms

-- the term in the unused places
abbrev pub padding : Term
padding = record { coefficient = pos 0; variable = A }

-- the three places for terms
abbrev pub padded : List Term → List Term
padded ts = ts ++ replicate (3 - length ts) padding

-- the first places hold the terms of a linear, the others the padding
pub record IsStored (constant : ℤ) (terms : List Term) (count : ℕ) : Type 0 where
  pub linear : IsLinear (record { constant = constant; terms = take count terms })
  pub rest : terms ≡ padded (take count terms)
  pub within : count ≤ 3
