-- Canons: sums in byte form, with one-valued variables put in (docs/CHECKER.md, "Canon").
use Rattle.std.specs.Prelude.{◌≡◌, ◌≢◌, ◌⊎◌, ◌==◌, true, Option, Some, None, if◌then◌else◌, ℤ, pos, ◌+ℤ◌, ◌*ℤ◌}
use Rattle.intervals.specs.Logic.{is_single}
use Rattle.loop_bounds.specs.Effect.{Valuation}
use Rattle.loop_bounds.specs.Linear.{LinearView, total}
use Rattle.loop_bounds.specs.Ranges.{Box}
use Rattle.loop_bounds.specs.Variable.{rank_of}
use Rattle.loop_bounds.specs.declared.variable.Variable.{Variable}
use Rattle.linear_sums.specs.Bytes.{byte_form}

-- 1 for one variable, 0 for the others
abbrev pub once : Variable → Variable → ℤ
once v w = if rank_of v == rank_of w then pos 1 else pos 0

-- none is no variable
abbrev pub once_at : Option Variable → Variable → ℤ
once_at None w = pos 0
once_at (Some v) w = once v w

-- What a variable of the byte form adds to the constant of a canon, or to the coefficient of a variable: a one-valued one
-- its value to the constant, another one itself to its own coefficient.
abbrev pub share : Box → Option Variable → Variable → ℤ
share box None w = if is_single (box w) then pos (box w).low else pos 0
share box (Some v) w = if is_single (box w) then pos 0 else once v w

-- what the constant of a sum adds to that of a canon, or to a coefficient
abbrev pub constant_at : LinearView → Option Variable → ℤ
constant_at s None = s.constant
constant_at s (Some v) = pos 0

-- the constant of the canon, or the coefficient of a variable in it
abbrev pub canon : LinearView → Box → Option Variable → ℤ
canon s box at = constant_at s at +ℤ total (byte_form (share box at)) s.terms

-- the canon is 0
abbrev pub IsZeroIn : Box → LinearView → Type 0
IsZeroIn box s = (at : Option Variable) → canon s box at ≡ pos 0

-- the canons are equal
abbrev pub IsSameIn : Box → LinearView → LinearView → Type 0
IsSameIn box s t = (at : Option Variable) → canon s box at ≡ canon t box at

-- multiples of the two canons, by these factors, are equal at a place
abbrev pub AgreeAt : Box → ℤ → LinearView → ℤ → LinearView → Option Variable → Type 0
AgreeAt box k s j t at = k *ℤ canon s box at ≡ j *ℤ canon t box at

-- they are equal
abbrev pub AreProportional : Box → ℤ → LinearView → ℤ → LinearView → Type 0
AreProportional box k s j t = (at : Option Variable) → AgreeAt box k s j t at

-- The canon is 0 or a multiple of the other: multiples of both, by factors that are not 0, are equal. So they have the
-- same variables.
abbrev pub IsMultipleIn : Box → LinearView → LinearView → Type 0
IsMultipleIn box s t =
    IsZeroIn box s ⊎ ((k : ℤ) × (j : ℤ) × (k ≢ pos 0) × (j ≢ pos 0) × AreProportional box k s j t)

-- each one-valued variable has its value
abbrev pub HasOneValues : Box → Valuation → Type 0
HasOneValues box x = (v : Variable) → is_single (box v) ≡ true → x v ≡ (box v).low
