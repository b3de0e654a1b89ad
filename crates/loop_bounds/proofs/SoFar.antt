-- Invariants of the loops over terms.
use Rattle.std.proofs.Common.{◌≡◌, ◌≢◌, ℕ, ◌+◌, ◌*◌, ◌<◌, ◌≤◌, Bool, List, [], ◌∷◌, length, get_or, take, ℤ, pos, ◌+ℤ◌, ◌*ℤ◌, unsigned_abs, All, ◌⊎◌}
use Rattle.loop_bounds.specs.declared.rewritten.Rewritten.{Rewritten}
use Rattle.loop_bounds.specs.declared.effect.Effect.{Effect}
use Rattle.loop_bounds.specs.declared.effect.Change.TheVariants.{Unknown}
use Rattle.loop_bounds.specs.declared.linear.Term.{Term}
use Rattle.loop_bounds.specs.Linear.{LinearView, IsLinear, total}
use Rattle.loop_bounds.specs.Variable.{rank_of}
use Rattle.loop_bounds.specs.declared.variable.Variable.{Variable}
use Rattle.loop_bounds.specs.Effect.{Valuation, after_from, change_of}
use Rattle.loop_bounds.specs.Ranges.{Box}
use Rattle.loop_bounds.specs.Form.{weight, least_total}
use Rattle.loop_bounds.specs.Signed.{signed}
use Rattle.loop_bounds.specs.Rewritten.{IsWithinRoom, value_of_both}
use Rattle.loop_bounds.specs.Tighten.{greatest_total}

-- the range of each variable of the terms has a value
abbrev pub AreOrdered : Box → List Term → Type 0
AreOrdered box [] = Unit {0}
AreOrdered box (t ∷ ts) = ((box t.variable).low ≤ (box t.variable).high) × AreOrdered box ts

-- the least value of a sum over a box, for the terms seen so far
pub record IsLeastSoFar (box : Box) (constant : ℤ) (seen : List Term) (least : ℤ) : Type 0 where
  pub exact : least ≡ constant +ℤ least_total box seen
  pub size : unsigned_abs least ≤ unsigned_abs constant + 65535 * weight seen
  pub ordered : AreOrdered box seen

-- the greatest value of the terms seen so far
pub record IsGreatestSoFar (box : Box) (seen : List Term) (greatest : ℤ) : Type 0 where
  pub exact : greatest ≡ greatest_total box seen
  pub size : unsigned_abs greatest ≤ 65535 * weight seen

-- the first `count` terms, or their negations, were added, each rewritten by the effect of a step from the source box
pub record HasAdded (old new : Rewritten) (source : Box) (effect : Effect) (negated : Bool) (terms : List Term) (count : ℕ) : Type 0 where
  pub value : (before free : Valuation) → value_of_both before free new ≡ value_of_both before free old +ℤ signed negated (total (after_from source effect before free) terms)
  pub room : (used : ℕ) → IsWithinRoom used old → IsWithinRoom (used + count) new
  pub no_unknown : All (λ t. change_of effect t.variable ≢ Unknown) terms → new.unknown ≡ old.unknown

-- the first `count` terms, each times a factor, were added
pub record HasAddedScaled (old new : LinearView) (factor : ℤ) (terms : List Term) (count : ℕ) : Type 0 where
  pub sum : (x : Variable → ℤ) → total x new.terms ≡ total x old.terms +ℤ factor *ℤ total x terms
  pub constant : new.constant ≡ old.constant
  pub short : length new.terms ≤ length old.terms + count
  pub light : weight new.terms ≤ weight old.terms + 256000000 * count

-- the first `count` terms of a linear are taken apart: the coefficient of a variable, and the rest
pub record IsApartSoFar (s : LinearView) (v : Variable) (count : ℕ) (rest : LinearView) (coefficient : ℤ) : Type 0 where
  pub linear : IsLinear rest
  pub constant : rest.constant ≡ s.constant
  pub value : (x : Variable → ℤ) → total x (take count s.terms) ≡ total x rest.terms +ℤ coefficient *ℤ x v
  pub absent : All (λ t. t.variable ≢ v) rest.terms
  pub short : length rest.terms ≤ count
  pub rising : (i : ℕ) (d : Term) → count ≤ i → i < length s.terms → All (λ u. rank_of u.variable < rank_of (get_or s.terms i d).variable) rest.terms
  pub size : unsigned_abs coefficient ≤ 1000000
  pub alone : (coefficient ≡ pos 0) ⊎ ((i : ℕ) (d : Term) → count ≤ i → i < length s.terms → rank_of v < rank_of (get_or s.terms i d).variable)
