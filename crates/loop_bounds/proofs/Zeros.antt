-- A sum whose value is 0 everywhere has the constant 0, and each coefficient is 0.
use Rattle.std.proofs.Common.{◌≡◌, cond, eqb, List, [], ◌∷◌, ℤ, pos, ◌*ℤ◌, refl, sym, ap, ◌∙◌, arith, All}
use Rattle.std.proofs.Math.IntN.{one, *ℤ-zero, *ℤ-one, zero-*ℤ}
use Rattle.std.proofs.lemmas.Int.{ints}
use Rattle.std.proofs.lemmas.List.Elements.{All-head, All-tail, All-cons, All-nil}
use Rattle.loop_bounds.specs.declared.variable.Variable.{Variable}
use Rattle.loop_bounds.specs.declared.linear.Term.{Term}
use Rattle.loop_bounds.specs.Variable.{rank_of}
use Rattle.loop_bounds.specs.Linear.{LinearView, total, value}
use Rattle.loop_bounds.specs.Effect.{Valuation, whole}
use Rattle.loop_bounds.specs.Form.{AreDistinct}
use Rattle.loop_bounds.proofs.VariableLemmas.{choice_same, choice_other}
use Rattle.loop_bounds.proofs.Boxes.{total_agree, distinct_head, distinct_tail}

abbrev IsZeroTerm : Term → Type 0
IsZeroTerm t = t.coefficient ≡ pos 0

-- 0 everywhere
nothing : Valuation
nothing v = 0

total_nothing : (ts : List Term) → total (whole nothing) ts ≡ pos 0
unfolding nothing
total_nothing [] = refl
total_nothing (t ∷ ts) = omega (arith, ints, *ℤ-zero t.coefficient, total_nothing ts)

total_zero : (x : Variable → ℤ) (ts : List Term) → All IsZeroTerm ts → total x ts ≡ pos 0
total_zero x [] h = refl
total_zero x (t ∷ ts) h =
    let first = ap (λ z. z *ℤ x t.variable) (All-head IsZeroTerm t ts h) in
    omega (arith, ints, first, zero-*ℤ (x t.variable), total_zero x ts (All-tail IsZeroTerm t ts h))

-- 1 at one variable, 0 elsewhere
only : Variable → Valuation
only v w = cond (eqb (rank_of w) (rank_of v)) 1 0

coefficient_found : (t : Term) (ts : List Term) → AreDistinct (t ∷ ts) → total (whole (only t.variable)) (t ∷ ts) ≡ t.coefficient
unfolding only nothing one
coefficient_found t ts h =
    let here : only t.variable t.variable ≡ 1 = choice_same t.variable t.variable 1 0 refl in
    let apart = distinct_head t ts h in
    let rest : total (whole (only t.variable)) ts ≡ total (whole nothing) ts =
    total_agree _ _ ts (λ k d p. ap pos (choice_other _ _ 1 0 (λ e. apart k d p (sym e)))) in
    let first = ap (λ n. t.coefficient *ℤ pos n) here in
    let once : t.coefficient *ℤ pos 1 ≡ t.coefficient = *ℤ-one t.coefficient in
    omega (arith, ints, first, once, rest, total_nothing ts)

terms_zero : (ts : List Term) → AreDistinct ts → ((x : Valuation) → total (whole x) ts ≡ pos 0) → All IsZeroTerm ts
terms_zero [] h zero = All-nil IsZeroTerm
terms_zero (t ∷ ts) h zero =
    let first : IsZeroTerm t = sym (coefficient_found t ts h) ∙ zero (only t.variable) in
    let rest : (x : Valuation) → total (whole x) ts ≡ pos 0 = λ x.
    let gone = ap (λ z. z *ℤ pos (x t.variable)) first in
    omega (arith, ints, gone, zero-*ℤ (pos (x t.variable)), zero x) in
    All-cons IsZeroTerm t ts first (terms_zero ts (distinct_tail t ts h) rest)

pub constant_zero : (s : LinearView) → ((x : Valuation) → value (whole x) s ≡ pos 0) → s.constant ≡ pos 0
constant_zero s zero = omega (arith, ints, zero nothing, total_nothing s.terms)

pub coefficients_zero : (s : LinearView) (ts : List Term) → ts ≡ s.terms → AreDistinct ts → ((x : Valuation) → value (whole x) s ≡ pos 0) → All (λ t. t.coefficient ≡ pos 0) ts
coefficients_zero s ts e h zero =
    let c = constant_zero s zero in
    terms_zero ts h (λ x. let same = ap (total (whole x)) e in omega (arith, ints, zero x))

pub value_zero : (s : LinearView) (ts : List Term) → ts ≡ s.terms → s.constant ≡ pos 0 → All (λ t. t.coefficient ≡ pos 0) ts → (x : Valuation) → value (whole x) s ≡ pos 0
value_zero s ts e c h x =
    let same = ap (total (whole x)) e in
    omega (arith, ints, total_zero (whole x) ts h)
