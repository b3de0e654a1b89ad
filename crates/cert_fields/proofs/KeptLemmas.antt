-- What is kept of a linear while it is read: one more term.
use Rattle.std.proofs.Common.{◌≡◌, ◌<◌, ◌≤◌, ◌+◌, ◌-◌, ◌↔◌, ℕ, List, [], ◌∷◌, ◌++◌, length, get_or, All, AllPairs, Option, Some, None, SomeIff, refl, ap, subst, ◌∙◌, arith, length-append}
use Rattle.std.proofs.lemmas.List.{get_or_append_left, get_or-append_right}
use Rattle.std.proofs.lemmas.List.Elements.{All-push, All-weaker, All-contains, Contains-push}
use Rattle.std.proofs.lemmas.List.Quantifiers.{all_pairs_push}
use Rattle.loop_bounds.specs.Linear.{LinearView, IsLinear, extended}
use Rattle.loop_bounds.specs.Variable.{rank_of}
use Rattle.loop_bounds.specs.declared.linear.Term.{Term}
use Rattle.loop_bounds.specs.declared.variable.Variable.{Variable}
use Rattle.cert_fields.specs.Linear.{IsBelow, IsCoefficient, IsSum, IsShort}
use Rattle.cert_fields.specs.Terms.{KeepsShort, IsKept}
use Rattle.cert_fields.specs.declared.linear.SoFar.{SoFar}

pub at_last : {X : Type 0} (P : X → Type 0) (xs : List X) (x : X) → All P (xs ++ x ∷ []) → P x
at_last P xs x all = All-contains P (xs ++ x ∷ []) x all (Contains-push xs x)

pub in_front : {X : Type 0} (P : X → Type 0) (xs ys : List X) → All P (xs ++ ys) → All P xs
in_front {X} P xs ys all = λ k d l. subst P (get_or_append_left xs ys d k l) (all k d (omega (arith, length-append xs ys)))

pub pairs_in_front : {X : Type 0} (R : X → X → Type 0) (xs ys : List X) → AllPairs R (xs ++ ys) → AllPairs R xs
pairs_in_front R xs ys all = λ i j d lt l.
    subst (λ a. R a (get_or xs j d)) (get_or_append_left xs ys d i (omega arith))
    (subst (λ b. R (get_or (xs ++ ys) i d) b) (get_or_append_left xs ys d j l) (all i j d lt (omega (arith, length-append xs ys))))

pub pairs_at_last : {X : Type 0} (R : X → X → Type 0) (xs : List X) (x : X) → AllPairs R (xs ++ x ∷ []) → All (λ y. R y x) xs
pairs_at_last R xs x all = λ k d l.
    let none : length xs - length xs ≡ 0 = omega arith in
    let there : get_or (xs ++ x ∷ []) (length xs) d ≡ x = get_or-append_right xs (x ∷ []) (length xs) (length xs) d refl (omega arith) ∙ ap (λ n. get_or (x ∷ []) n d) none in
    subst (λ b. R (get_or xs k d) b) there
    (subst (λ a. R a (get_or (xs ++ x ∷ []) (length xs) d)) (get_or_append_left xs (x ∷ []) d k l) (all k (length xs) d l (omega (arith, length-append xs (x ∷ [])))))

-- the first terms of a sum that is in form are in form
pub sum_in_front : (slots : ℕ) (done s : LinearView) (more : List Term) → s.constant ≡ done.constant → s.terms ≡ done.terms ++ more → IsSum slots s → IsSum slots done
sum_in_front slots done s more constant terms form =
    let coefficients : All (λ t. IsCoefficient t.coefficient) (done.terms ++ more) = subst (λ ts. All (λ (t : Term). IsCoefficient t.coefficient) ts) terms form.coefficients in
    let rising : AllPairs (λ t u. rank_of t.variable < rank_of u.variable) (done.terms ++ more) = subst (λ ts. AllPairs (λ (t u : Term). rank_of t.variable < rank_of u.variable) ts) terms form.rising in
    let within : All (λ t. IsBelow slots t.variable) (done.terms ++ more) = subst (λ ts. All (λ (t : Term). IsBelow slots t.variable) ts) terms form.within_shape in
    record {
      constant = rw (← constant) form.constant;
      coefficients = in_front (λ t. IsCoefficient t.coefficient) done.terms more coefficients;
      rising = pairs_in_front (λ t u. rank_of t.variable < rank_of u.variable) done.terms more rising;
      within_shape = in_front (λ t. IsBelow slots t.variable) done.terms more within;
    }

-- a variable that does not come after the others
pub too_early : (slots : ℕ) (done : LinearView) (kept : SoFar) (t : Term) → IsKept slots done kept → rank_of t.variable < kept.least → IsSum slots (extended done t) → ⊥
too_early slots done kept t keeps early form =
    let before = pairs_at_last (λ t u. rank_of t.variable < rank_of u.variable) done.terms t form.rising in
    absurd (omega (arith, (keeps.least t.variable).1 before))

-- a term with which the linear can continue
module _ (slots : ℕ) (done : LinearView) (kept : SoFar) (t : Term) (keeps : IsKept slots done kept)
    (late : kept.least ≤ rank_of t.variable) (below : IsBelow slots t.variable) (sized : IsCoefficient t.coefficient) where
  before_it : All (λ u. rank_of u.variable < rank_of t.variable) done.terms
  before_it = (keeps.least t.variable).0 late

  sum_more : IsSum slots (extended done t)
  sum_more = record {
    constant = keeps.form.constant;
    coefficients = All-push (λ u. IsCoefficient u.coefficient) done.terms t keeps.form.coefficients sized;
    rising = all_pairs_push (λ u w. rank_of u.variable < rank_of w.variable) done.terms t keeps.form.rising before_it;
    within_shape = All-push (λ u. IsBelow slots u.variable) done.terms t keeps.form.within_shape below;
  }

  least_more : (v : Variable) → (rank_of t.variable + 1 ≤ rank_of v) ↔ All (λ u. rank_of u.variable < rank_of v) (done.terms ++ t ∷ [])
  least_more v = (
    λ after. All-push (λ u. rank_of u.variable < rank_of v) done.terms t
        (All-weaker (λ u. rank_of u.variable < rank_of t.variable) (λ u. rank_of u.variable < rank_of v) (λ u lower. omega (arith, lower, after)) done.terms before_it)
        (omega (arith, after)),
    λ all. let last = at_last (λ u. rank_of u.variable < rank_of v) done.terms t all in omega (arith, last),
  )

  pub kept_more : (linear : Option LinearView) (rank : ℕ) → rank ≡ rank_of t.variable → (IsSum slots (extended done t) → KeepsShort (extended done t) linear) → IsKept slots (extended done t) (record { linear = linear; least = rank + 1 })
  kept_more linear rank same keeps_short = record {
    form = sum_more;
    linear = keeps_short sum_more;
    least = rw same least_more;
  }

-- the linear itself, with one more term
pub with_term_keeps : (slots : ℕ) (done linear : LinearView) (t : Term) (result : Option LinearView) → IsShort done → linear ≡ done → IsBelow 64 t.variable → SomeIff result (IsLinear (extended linear t)) (extended linear t) → IsSum slots (extended done t) → KeepsShort (extended done t) result
with_term_keeps slots done linear t (Some made) short same low given form =
    let is : IsLinear (extended done t) = rw same at given.0 in (
      record { count = is.count; numbers = All-push (λ u. IsBelow 64 u.variable) done.terms t short.numbers low },
      given.1 ∙ ap (λ s. extended s t) same,
    )
with_term_keeps slots done linear t None short same low given form = λ few.
    given (rw same (record { constant = form.constant; count = few.count; coefficients = form.coefficients; rising = form.rising }))
