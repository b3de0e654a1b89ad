-- Where a linear is not 0 (docs/CHECKER.md, "Narrowing by parts").
use Rattle.std.specs.Prelude.{ℕ, ◌/◌, ◌==◌, ◌&&◌, nat_le, Bool, not, if◌then◌else◌, List, [], ◌∷◌, filter, Option, Some, None, option_and_then, ℤ, pos, ◌+ℤ◌, ◌*ℤ◌, unsigned_abs}
use Rattle.intervals.specs.Logic.{is_single}
use Rattle.intervals.specs.Range.{without}
use Rattle.loop_bounds.specs.Linear.{LinearView, value}
use Rattle.loop_bounds.specs.Ranges.{Box}
use Rattle.loop_bounds.specs.declared.linear.Term.{Term}
use Rattle.loop_bounds.specs.declared.variable.Variable.{Variable}
use Rattle.abs_state.specs.Variables.{range_of, cut_to}
use Rattle.abs_state.specs.declared.state.AbsState.{AbsState}
use Rattle.flag_parts.specs.declared.excluding.FreeTerms.{FreeTerms}
use Rattle.flag_parts.specs.declared.excluding.FreeTerms.TheVariants.{Nothing, One, More}

-- the value of a one-valued variable, else 0
abbrev pub known_part : Box → Variable → ℤ
known_part box v = if is_single (box v) then pos (box v).low else pos 0

-- the value of the linear without its free terms
abbrev pub known_value : Box → LinearView → ℤ
known_value box linear = value (known_part box) linear

-- the variable of the term has more than one value
abbrev pub is_free : Box → Term → Bool
is_free box t = not (is_single (box t.variable))

-- one more
abbrev pub with_free : FreeTerms → Term → FreeTerms
with_free Nothing t = One t
with_free (One u) t = More
with_free More t = More

-- one more, if it is free
abbrev pub with_term : Box → FreeTerms → Term → FreeTerms
with_term box free t = if is_free box t then with_free free t else free

-- how many terms there are
abbrev pub counted : List Term → FreeTerms
counted [] = Nothing
counted (t ∷ []) = One t
counted (t ∷ u ∷ ts) = More

-- the terms whose variables have more than one value
abbrev pub free_terms : Box → List Term → FreeTerms
free_terms box ts = counted (filter (is_free box) ts)

abbrev pub is_none : ℤ → Bool
is_none n = unsigned_abs n == 0

-- the word whose product with the coefficient becomes 0 when the constant is added
abbrev pub balance : ℤ → ℤ → Option ℕ
balance coefficient constant =
    let word = unsigned_abs constant / unsigned_abs coefficient in
    if nat_le word 65535 && is_none (coefficient *ℤ pos word +ℤ constant) then Some word else None

-- one value is cut from the ends of a variable's range, if anything is left
abbrev pub without_value : AbsState → Variable → ℕ → Option AbsState
without_value s v n = option_and_then (cut_to s v) (without (range_of s v) n)

-- the word, if there is one, is cut
abbrev pub without_word : AbsState → Variable → Option ℕ → Option AbsState
without_word s v None = Some s
without_word s v (Some n) = without_value s v n

-- the state where the constant and the free terms are not 0
abbrev pub not_zero_by : FreeTerms → ℤ → AbsState → Option AbsState
not_zero_by Nothing constant s = if is_none constant then None else Some s
not_zero_by (One t) constant s = without_word s t.variable (balance t.coefficient constant)
not_zero_by More constant s = Some s

-- the term of a linear that has no other
abbrev pub only_term : List Term → Option Term
only_term [] = None
only_term (t ∷ []) = Some t
only_term (t ∷ u ∷ ts) = None

-- the state where the linear is not 0: of an only term the word is cut, whether or not it is free
abbrev pub not_zero_if : Option Term → LinearView → AbsState → Option AbsState
not_zero_if (Some t) linear s = without_word s t.variable (balance t.coefficient linear.constant)
not_zero_if None linear s = not_zero_by (free_terms (range_of s) linear.terms) (known_value (range_of s) linear) s

-- the state where the linear is not 0; none if nothing is left
abbrev pub not_zero : LinearView → AbsState → Option AbsState
not_zero linear s = not_zero_if (only_term linear.terms) linear s
