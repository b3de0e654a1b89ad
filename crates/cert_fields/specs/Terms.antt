-- Terms as a text has them, with slots that may be beyond any shape; and what is kept of a linear while it is read.
use denote.Ref.{Bor}
use Rattle.std.specs.Prelude.{ℕ, ◌≡◌, ◌≢◌, ◌<◌, ◌≤◌, ◌^◌, ◌==◌, ◌||◌, ◌++◌, ◌↔◌, List, [], ◌∷◌, All, Bool, false, IsTrue, ℤ, unsigned_abs, Option, Some, None}
use Rattle.std.specs.Fmt.{signed_decimal}
use Rattle.std.specs.List.{AllByRecursion}
use Rattle.loop_bounds.specs.Linear.{LinearView, extended}
use Rattle.loop_bounds.specs.Variable.{rank_of}
use Rattle.loop_bounds.specs.declared.linear.Term.{Term}
use Rattle.loop_bounds.specs.declared.variable.Variable.{Variable}
use Rattle.loop_bounds.specs.declared.variable.Variable.TheVariants.{Slot}
use Rattle.cert_fields.specs.Linear.{IsBelow, IsCoefficient, IsSum, IsShort, term_text}
use Rattle.cert_fields.specs.declared.variable.NamedVariable.{NamedVariable}
use Rattle.cert_fields.specs.declared.variable.NamedVariable.TheVariants as named
use Rattle.cert_fields.specs.declared.linear.SoFar.{SoFar}

-- the variable that was named
abbrev pub variable_of : NamedVariable → Variable
variable_of (named.Register variable) = variable
variable_of (named.Slot number part) = Slot number part

-- a variable is no slot
abbrev pub IsNoSlot : Variable → Type 0
IsNoSlot (Slot number part) = ⊥
IsNoSlot _ = Unit {0}

-- the term with a coefficient and a named variable
abbrev pub term_of : ℤ × NamedVariable → Term
term_of t = record { coefficient = t.0; variable = variable_of t.1 }

-- a term whose slot may have any number of 64 bits
pub record IsTerm (t : Term) : Type 0 where
  pub coefficient : IsCoefficient t.coefficient
  pub number : IsBelow (2 ^ 64) t.variable

-- whether a byte is a sign; in a linear, signs are only before terms and before the constant
abbrev pub is_sign : ℕ → Bool
is_sign b = (b == 43) || (b == 45)

-- no byte is a sign
abbrev pub HasNoSign : List ℕ → Type 0
HasNoSign text = AllByRecursion (λ b. is_sign b ≡ false) text

-- the text is empty, or begins with a sign
abbrev pub BeginsWithSign : List ℕ → Type 0
BeginsWithSign [] = Unit {0}
BeginsWithSign (b ∷ text) = IsTrue (is_sign b)

-- the first part of the text ends before the first sign
pub record IsCutAtSign (text front behind : List ℕ) : Type 0 where
  pub whole : text ≡ front ++ behind
  pub plain : HasNoSign front
  pub sign : BeginsWithSign behind

-- a constant is up to 1,000,000,000 in size
abbrev pub IsConstant : ℤ → Type 0
IsConstant z = unsigned_abs z ≤ 1000000000

-- what was read of a text: the constant with which it begins, and the text from the next sign on; or it begins with
-- none
abbrev pub ReadsConstant : List ℕ → Option (ℤ × Bor (List ℕ)) → Type 0
ReadsConstant seen (Some (constant, behind)) =
    IsConstant constant × (seen ≡ signed_decimal constant ++ behind.now) × BeginsWithSign behind.now
ReadsConstant seen None =
    (constant : ℤ) (behind : List ℕ) → IsConstant constant → BeginsWithSign behind → seen ≢ signed_decimal constant ++ behind

-- the linear, if it is within the limits; otherwise nothing
abbrev pub KeepsShort : LinearView → Option LinearView → Type 0
KeepsShort done (Some linear) = IsShort done × (linear ≡ done)
KeepsShort done None = IsShort done → ⊥

-- what is kept of a linear after some terms: the linear, as long as it is within the limits, and the least rank that
-- the next variable may have
pub record IsKept (slots : ℕ) (done : LinearView) (kept : SoFar) : Type 0 where
  pub form : IsSum slots done
  pub linear : KeepsShort done kept.linear
  pub least : (v : Variable) → (kept.least ≤ rank_of v) ↔ All (λ t. rank_of t.variable < rank_of v) done.terms

-- what was read of a text: what is kept of the linear with the first term, and the text from the next sign on; or no
-- term with which the text begins can continue the linear
abbrev pub ReadsTerm : ℕ → List ℕ → LinearView → SoFar → Option (Bor (List ℕ)) → Type 0
ReadsTerm slots seen done kept (Some behind) =
    (t : Term) × (seen ≡ term_text t ++ behind.now) × BeginsWithSign behind.now × IsKept slots (extended done t) kept
ReadsTerm slots seen done kept None =
    (t : Term) (behind : List ℕ) → BeginsWithSign behind → seen ≡ term_text t ++ behind → IsSum slots (extended done t) → ⊥
