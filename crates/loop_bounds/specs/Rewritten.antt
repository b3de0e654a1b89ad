-- A linear rewritten by an effect: variables before the step, and variables unknown after it.
use Rattle.std.specs.Prelude.{◌≡◌, ℕ, ◌+◌, ◌*◌, ◌^◌, ◌≤◌, ◌<◌, Bool, length, ℤ, pos, ◌+ℤ◌, unsigned_abs}
use Rattle.loop_bounds.specs.declared.rewritten.Rewritten.{Rewritten}
use Rattle.loop_bounds.specs.declared.effect.Effect.{Effect}
use Rattle.loop_bounds.specs.Linear.{LinearView, total, value}
use Rattle.loop_bounds.specs.Effect.{Valuation, whole, after_from}
use Rattle.loop_bounds.specs.Form.{weight}
use Rattle.loop_bounds.specs.Ranges.{Box}
use Rattle.loop_bounds.specs.Signed.{signed}

-- its value, from the values before the step and those of the unknown variables
abbrev pub value_of_both : Valuation → Valuation → Rewritten → ℤ
value_of_both before free r = value (whole before) r.known +ℤ value (whole free) r.unknown

-- the sum has at most `used` terms with coefficients up to 1,000,000 in size, and constants for as many, so nothing
-- overflows
pub record IsWithinRoom (used : ℕ) (r : Rewritten) : Type 0 where
  pub known_terms : length r.known.terms ≤ used
  pub unknown_terms : length r.unknown.terms ≤ used
  pub known_weight : weight r.known.terms ≤ 1000000 * used
  pub unknown_weight : weight r.unknown.terms ≤ 1000000 * used
  pub constant : unsigned_abs r.known.constant ≤ 2 ^ 40 * (used + 1)
  pub unknown_constant : r.unknown.constant ≡ pos 0

-- the constants and the coefficients are not too great together, so the least values can be computed
pub record IsLight (r : Rewritten) : Type 0 where
  pub known : weight r.known.terms < 2 ^ 31
  pub unknown : weight r.unknown.terms < 2 ^ 31
  pub constant : unsigned_abs r.known.constant < 2 ^ 60
  pub unknown_constant : unsigned_abs r.unknown.constant < 2 ^ 60

-- the terms of a linear, or their negations, were added, each rewritten by the effect of a step from the source box
abbrev pub WasAdded : Rewritten → Rewritten → Box → Effect → Bool → LinearView → Type 0
WasAdded old new source effect negated s =
    (before free : Valuation) → value_of_both before free new ≡ value_of_both before free old +ℤ signed negated (total (after_from source effect before free) s.terms)
