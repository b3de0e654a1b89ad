-- The meaning of the exact tests on linears (docs/CHECKER.md, "Linear bounds, effects and tightening").
use Rattle.std.specs.Prelude.{◌≡◌, ℕ, ℤ, pos, neg_ℤ, ◌-ℤ◌, ◌*ℤ◌, ◌≤ℤ◌}
use Rattle.loop_bounds.specs.declared.effect.Effect.{Effect}
use Rattle.loop_bounds.specs.Linear.{LinearView, value}
use Rattle.loop_bounds.specs.Effect.{Valuation, whole, after, after_from, HasNoUnknown}
use Rattle.loop_bounds.specs.Ranges.{Box, LiesIn}

-- the value of `from` pays the cost and leaves `to`, at all values of the source box and, for unknown variables, of the
-- target box
abbrev pub Decreases : LinearView → LinearView → ℕ → Effect → Box → Box → Type 0
Decreases from to cost effect source target =
    (before free : Valuation) → LiesIn source before → LiesIn target free →
    pos 0 ≤ℤ (value (whole before) from -ℤ pos cost -ℤ value (after effect before free) to)

-- it does so where some multiple of one more linear, over the variables before the step, is left too
abbrev pub DecreasesBeside : LinearView → LinearView → ℕ → Effect → ℤ → LinearView → Box → Box → Type 0
DecreasesBeside from to cost effect factor beside source target =
    (before free : Valuation) → LiesIn source before → LiesIn target free →
    pos 0 ≤ℤ (value (whole before) from -ℤ pos cost -ℤ value (after effect before free) to
    -ℤ factor *ℤ value (whole before) beside)

-- the fact, rewritten by the effect of a step from the source box, has no unknown variable and is the constant 0
abbrev pub Vanishes : LinearView → Effect → Box → Type 0
Vanishes fact effect source =
    HasNoUnknown effect fact × ((before free : Valuation) → value (after_from source effect before free) fact ≡ pos 0)

-- the fact, rewritten by the effect of a step from the source box, has no unknown variable and is the given linear
abbrev pub Becomes : LinearView → Effect → Box → LinearView → Type 0
Becomes fact effect source given =
    HasNoUnknown effect fact ×
    ((before free : Valuation) → value (after_from source effect before free) fact ≡ value (whole before) given)

-- the fact, rewritten by the effect of a step from the source box, has no unknown variable and is the negation of the
-- given linear
abbrev pub BecomesNegation : LinearView → Effect → Box → LinearView → Type 0
BecomesNegation fact effect source given =
    HasNoUnknown effect fact ×
    ((before free : Valuation) → value (after_from source effect before free) fact ≡ neg_ℤ (value (whole before) given))
