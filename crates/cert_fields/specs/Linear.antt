-- A linear's text, and which linears are in form (docs/CERTIFICATE.md, "Linears").
use Rattle.std.specs.Prelude.{ℕ, ◌<◌, ◌≤◌, List, ◌++◌, length, codes, All, AllPairs, Option, Some, None, ℤ, pos, negsuc, unsigned_abs}
use Rattle.std.specs.Fmt.{decimal, signed_decimal}
use Rattle.std.specs.List.{flat_map}
use Rattle.loop_bounds.specs.Linear.{LinearView}
use Rattle.loop_bounds.specs.Variable.{rank_of}
use Rattle.loop_bounds.specs.declared.linear.Term.{Term}
use Rattle.loop_bounds.specs.declared.variable.Variable.{Variable}
use Rattle.loop_bounds.specs.declared.variable.Variable.TheVariants.{Slot}
use Rattle.cert_fields.specs.VariableNames.{variable_name}

-- the sign of a term's coefficient
abbrev pub sign_of : ℤ → List ℕ
sign_of (pos n) = codes "+"
sign_of (negsuc n) = codes "-"

-- a term: the sign, the size of the coefficient, a star and the variable
unfoldable pub term_text : Term → List ℕ
term_text t = sign_of t.coefficient ++ (decimal (unsigned_abs t.coefficient) ++ (codes "*" ++ variable_name t.variable))

-- the constant, with a sign only if it is negative, and the terms after it
unfoldable pub linear_text : LinearView → List ℕ
linear_text s = signed_decimal s.constant ++ flat_map term_text s.terms

-- a variable is no slot, or one with a number below `slots`
abbrev pub IsBelow : ℕ → Variable → Type 0
IsBelow slots (Slot number part) = number < slots
IsBelow slots _ = Unit {0}

-- a coefficient is 1 to 1,000,000 in size
abbrev pub IsCoefficient : ℤ → Type 0
IsCoefficient z = (0 < unsigned_abs z) × (unsigned_abs z ≤ 1000000)

-- each slot that a term names has a number below `slots`
abbrev pub HasSlotsBelow : ℕ → LinearView → Type 0
HasSlotsBelow slots s = All (λ t. IsBelow slots t.variable) s.terms

-- a linear in form in a row with this many slots, except that it may have any number of terms: the constant is up to
-- 1,000,000,000 in size, each coefficient is 1 to 1,000,000 in size, the variables rise, and no slot is beyond the
-- shape
pub record IsSum (slots : ℕ) (s : LinearView) : Type 0 where
  pub constant : unsigned_abs s.constant ≤ 1000000000
  pub coefficients : All (λ t. IsCoefficient t.coefficient) s.terms
  pub rising : AllPairs (λ t u. rank_of t.variable < rank_of u.variable) s.terms
  pub within_shape : HasSlotsBelow slots s

-- a linear within the limits: at most three terms, and no slot with a number of 64 or more
pub record IsShort (s : LinearView) : Type 0 where
  pub count : length s.terms ≤ 3
  pub numbers : HasSlotsBelow 64 s

-- a row's potential: a linear, or a dash if there is none
abbrev pub potential_text : Option LinearView → List ℕ
potential_text None = codes "-"
potential_text (Some s) = linear_text s

abbrev pub IsPotential : ℕ → Option LinearView → Type 0
IsPotential slots None = Unit {0}
IsPotential slots (Some s) = IsSum slots s

abbrev pub IsShortPotential : Option LinearView → Type 0
IsShortPotential None = Unit {0}
IsShortPotential (Some s) = IsShort s
