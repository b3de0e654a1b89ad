-- Narrowing is made of cuts: what each cut keeps, narrowing keeps.
use Rattle.std.proofs.Common.{◌+◌, ℕ, Bool, true, false, cond, List, [], ◌∷◌, Option, Some, None}
use Rattle.std.specs.Prelude.{IfSome, option_and_then, ℤ}
use Rattle.intervals.specs.Range.{RangeView, without}
use Rattle.linear_limits.specs.Limit.{limit_left, limited_by, reaches_side}
use Rattle.linear_limits.specs.declared.limiting.SideOfZero.{SideOfZero}
use Rattle.loop_bounds.specs.Linear.{LinearView}
use Rattle.loop_bounds.specs.Tighten.{share_left, tightened_from}
use Rattle.loop_bounds.specs.declared.linear.Term.{Term}
use Rattle.loop_bounds.specs.declared.variable.Variable.{Variable}
use Rattle.z80_decode.specs.declared.kinds.Condition.{Condition}
use Rattle.abs_state.specs.Variables.{cut_to, range_of}
use Rattle.abs_state.specs.declared.state.AbsState.{AbsState}
use Rattle.flag_parts.specs.Excluding.{balance, free_terms, is_none, known_value, not_zero_by, not_zero_if, only_term, without_word}
use Rattle.flag_parts.specs.Narrowing.{narrowed, narrowed_by, narrowed_by_part, narrowed_if_said, said, zero_by}
use Rattle.flag_parts.specs.declared.excluding.FreeTerms.{FreeTerms}
use Rattle.flag_parts.specs.declared.excluding.FreeTerms.TheVariants.{Nothing, One, More}
use Rattle.flag_parts.specs.declared.narrowing.ZeroTest.{ZeroTest}
use Rattle.flag_parts.specs.declared.narrowing.ZeroTest.TheVariants.{IsZero, IsNotZero, LiesOn}
use Rattle.flag_letters.specs.declared.part.FlagPart.{FlagPart}

-- ---- options

pub on_some : {X Y : Type 0} (o : Option X) (f : X → Option Y) (Q : Y → Type 0) → ((x : X) → IfSome (f x) Q) → IfSome (option_and_then f o) Q
on_some None f Q h = tt
on_some (Some x) f Q h = h x

pub through_some : {X Y : Type 0} (o : Option X) (P : X → Type 0) (f : X → Option Y) (Q : Y → Type 0) → IfSome o P → ((x : X) → P x → IfSome (f x) Q) → IfSome (option_and_then f o) Q
through_some None P f Q p h = tt
through_some (Some x) P f Q p h = h x p

pub each_some : {X : Type 0} (o : Option X) (P Q : X → Type 0) → IfSome o P → ((x : X) → P x → Q x) → IfSome o Q
each_some None P Q p h = tt
each_some (Some x) P Q p h = h x p

-- ---- narrowing

module _ (P : AbsState → AbsState → Type 0) (same : (s : AbsState) → P s s) (along : (s t u : AbsState) → P s t → P t u → P s u) (cut_kept : (s : AbsState) (v : Variable) (to : RangeView) → IfSome (cut_to s v to) (P s)) where
  more : (s t : AbsState) (o : Option AbsState) → P s t → IfSome o (P t) → IfSome o (P s)
  more s t None k h = tt
  more s t (Some u) k h = along s t u k h

  if_kept : (b : Bool) (o : Option AbsState) (s : AbsState) → IfSome o (P s) → IfSome (cond b o None) (P s)
  if_kept true o s h = h
  if_kept false o s h = tt

  unless_kept : (b : Bool) (s : AbsState) → IfSome (cond b None (Some s)) (P s)
  unless_kept true s = tt
  unless_kept false s = same s

  -- a cut, and what follows it
  pub cut_through : (o : Option RangeView) (s : AbsState) (v : Variable) (f : AbsState → Option AbsState) → ((t : AbsState) → IfSome (f t) (P t)) → IfSome (option_and_then (λ left. option_and_then f (cut_to s v left)) o) (P s)
  cut_through o s v f h =
      on_some o _ (P s) (λ left.
      through_some (cut_to s v left) (P s) f (P s) (cut_kept s v left) (λ t k. more s t (f t) k (h t)))

  pub cut_some : (o : Option RangeView) (s : AbsState) (v : Variable) → IfSome (option_and_then (cut_to s v) o) (P s)
  cut_some o s v = on_some o (cut_to s v) (P s) (λ left. cut_kept s v left)

  tightened_kept : (fact : LinearView) (place : ℕ) (ts : List Term) (s : AbsState) → IfSome (tightened_from range_of cut_to fact place ts s) (P s)
  tightened_kept fact place [] s = same s
  tightened_kept fact place (t ∷ ts) s =
      cut_through (share_left fact (range_of s) place t) s t.variable (tightened_from range_of cut_to fact (place + 1) ts) (tightened_kept fact (place + 1) ts)

  limits_kept : (side : SideOfZero) (linear : LinearView) (ts : List Term) (s : AbsState) → IfSome (limited_by range_of cut_to side linear ts s) (P s)
  limits_kept side linear [] s = same s
  limits_kept side linear (t ∷ ts) s =
      cut_through (limit_left side linear (range_of s) t) s t.variable (limited_by range_of cut_to side linear ts) (limits_kept side linear ts)

  zero_kept : (ts : List Term) (linear : LinearView) (s : AbsState) → IfSome (zero_by ts linear s) (P s)
  zero_kept [] linear s = if_kept (is_none linear.constant) (Some s) s (same s)
  zero_kept (t ∷ ts) linear s = tightened_kept linear 0 linear.terms s

  word_kept : (s : AbsState) (v : Variable) (word : Option ℕ) → IfSome (without_word s v word) (P s)
  word_kept s v None = same s
  word_kept s v (Some n) = cut_some (without (range_of s v) n) s v

  not_zero_kept : (free : FreeTerms) (constant : ℤ) (s : AbsState) → IfSome (not_zero_by free constant s) (P s)
  not_zero_kept Nothing constant s = unless_kept (is_none constant) s
  not_zero_kept (One t) constant s = word_kept s t.variable (balance t.coefficient constant)
  not_zero_kept More constant s = same s

  only_kept : (only : Option Term) (linear : LinearView) (s : AbsState) → IfSome (not_zero_if only linear s) (P s)
  only_kept (Some t) linear s = word_kept s t.variable (balance t.coefficient linear.constant)
  only_kept None linear s = not_zero_kept (free_terms (range_of s) linear.terms) (known_value (range_of s) linear) s

  by_kept : (what : ZeroTest) (linear : LinearView) (s : AbsState) → IfSome (narrowed_by what linear s) (P s)
  by_kept IsZero linear s = zero_kept linear.terms linear s
  by_kept IsNotZero linear s = only_kept (only_term linear.terms) linear s
  by_kept (LiesOn side) linear s = if_kept (reaches_side side linear (range_of s)) (limited_by range_of cut_to side linear linear.terms s) s (limits_kept side linear linear.terms s)

  if_said_kept : (what : Option ZeroTest) (linear : LinearView) (s : AbsState) → IfSome (narrowed_if_said what linear s) (P s)
  if_said_kept None linear s = same s
  if_said_kept (Some what) linear s = by_kept what linear s

  pub kept_by_cuts : (condition : Condition) (parts : List FlagPart) (s : AbsState) → IfSome (narrowed condition parts s) (P s)
  kept_by_cuts condition [] s = same s
  kept_by_cuts condition (part ∷ parts) s =
      through_some (narrowed_by_part condition part s) (P s) (narrowed condition parts) (P s)
      (if_said_kept (said part.letter condition) part.linear s) (λ t k. more s t (narrowed condition parts t) k (kept_by_cuts condition parts t))
