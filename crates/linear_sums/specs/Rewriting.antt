-- Linears rewritten by effects (docs/CHECKER.md, "Canon").
use Rattle.std.specs.Prelude.{◌≡◌, ◌≢◌, ◌≤◌, ◌==◌, ℕ, List, [], ◌∷◌, All, Option, Some, None, option_and_then, if◌then◌else◌, ℤ, pos, neg_ℤ, ◌+ℤ◌, ◌*ℤ◌, unsigned_abs}
use Rattle.loop_bounds.specs.Effect.{Valuation, whole, changed, change_of}
use Rattle.loop_bounds.specs.Linear.{LinearView, value}
use Rattle.loop_bounds.specs.Variable.{rank_of}
use Rattle.loop_bounds.specs.declared.effect.Change.{Change}
use Rattle.loop_bounds.specs.declared.effect.Change.TheVariants.{Old, Raised, Lowered, Constant, Unknown}
use Rattle.loop_bounds.specs.declared.effect.Effect.{Effect}
use Rattle.loop_bounds.specs.declared.linear.Term.{Term}
use Rattle.loop_bounds.specs.declared.variable.Variable.{Variable}
use Rattle.linear_sums.specs.Sum.{plus_term, plus_multiple}
use Rattle.linear_sums.specs.declared.rewriting.LinearChange.{LinearChange}

-- a whole number is added
abbrev pub plus_whole : LinearView → ℤ → LinearView
plus_whole s n = record s { constant = s.constant +ℤ n }

-- a multiple of what a change leaves is added; none if that is unknown
abbrev pub plus_change : LinearView → ℤ → Change → Option LinearView
plus_change s k (Old v) = Some (plus_term s k v)
plus_change s k (Raised v) = Some (plus_whole (plus_term s k v) k)
plus_change s k (Lowered v) = Some (plus_whole (plus_term s k v) (neg_ℤ k))
plus_change s k (Constant n) = Some (plus_whole s (k *ℤ pos n))
plus_change s k Unknown = None

-- A term over the variables after a step is added. The linear change has priority over the effect.
abbrev pub plus_after : Effect → Option LinearChange → LinearView → Term → Option LinearView
plus_after effect None s t = plus_change s t.coefficient (change_of effect t.variable)
plus_after effect (Some c) s t =
    if rank_of c.variable == rank_of t.variable then Some (plus_multiple s t.coefficient c.value)
    else plus_change s t.coefficient (change_of effect t.variable)

-- terms over the variables after a step are added in their order
abbrev pub plus_each_after : Effect → Option LinearChange → List Term → LinearView → Option LinearView
plus_each_after effect c [] s = Some s
plus_each_after effect c (t ∷ ts) s = option_and_then (plus_each_after effect c ts) (plus_after effect c s t)

-- the linear over the variables after a step, as a sum over those before it; none if a variable is unknown
abbrev pub rewritten : Effect → Option LinearChange → LinearView → Option LinearView
rewritten effect c s = plus_each_after effect c s.terms (record { constant = s.constant; terms = [] })

-- the coefficients of the linear change are at most 256 in size
abbrev pub IsSlight : Option LinearChange → Type 0
IsSlight None = Unit {0}
IsSlight (Some c) = All (λ t. unsigned_abs t.coefficient ≤ 256) c.value.terms

-- a value after the step is what the effect leaves in the variable, or the value of the linear change
abbrev pub FollowsEffect : Effect → Option LinearChange → Valuation → Variable → ℕ → Type 0
FollowsEffect effect None before v n = changed (change_of effect v) before (pos n) ≡ pos n
FollowsEffect effect (Some c) before v n =
    (v ≡ c.variable → pos n ≡ value (whole before) c.value) ×
    (v ≢ c.variable → changed (change_of effect v) before (pos n) ≡ pos n)
