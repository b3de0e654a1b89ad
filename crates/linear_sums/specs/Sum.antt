-- Sums of terms with any variables (docs/CHECKER.md, "Canon").
use Rattle.std.specs.Prelude.{ℕ, ◌*◌, ◌^◌, ◌≤◌, [], ◌∷◌, ◌++◌, length, map, Bool, if◌then◌else◌, ℤ, pos, negsuc, ◌+ℤ◌, ◌*ℤ◌, unsigned_abs}
use Rattle.loop_bounds.specs.Form.{weight}
use Rattle.loop_bounds.specs.Linear.{LinearView}
use Rattle.loop_bounds.specs.declared.linear.Term.{Term}
use Rattle.loop_bounds.specs.declared.variable.Variable.{Variable}

-- 1, or -1
abbrev pub sign : Bool → ℤ
sign negated = if negated then negsuc 0 else pos 1

-- a multiple of a term
abbrev pub multiplied : ℤ → Term → Term
multiplied k t = record t { coefficient = k *ℤ t.coefficient }

-- a term is added
abbrev pub plus_term : LinearView → ℤ → Variable → LinearView
plus_term s k v = record s { terms = s.terms ++ record { coefficient = k; variable = v } ∷ [] }

-- a multiple of the second is added to the first
abbrev pub plus_multiple : LinearView → ℤ → LinearView → LinearView
plus_multiple s k t = record {
  constant = s.constant +ℤ k *ℤ t.constant;
  terms = s.terms ++ map (multiplied k) t.terms;
}

-- the sum is as long and as great as at most `count` parts, each a term or a whole number
pub record IsMadeOf (count : ℕ) (s : LinearView) : Type 0 where
  pub terms : length s.terms ≤ count
  pub weight : weight s.terms ≤ 256000000 * count
  pub constant : unsigned_abs s.constant ≤ 2 ^ 50 * count
