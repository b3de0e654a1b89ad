-- The loop that computes a canon.
use Rattle.std.proofs.Common.{◌≡◌, ℕ, ◌+◌, ◌*◌, ◌<◌, ◌≤◌, ◌^◌, List, [], ◌∷◌, ◌++◌, length, get_or, take, ℤ, ◌+ℤ◌, ◌*ℤ◌, sym, subst, ap, ◌∙◌, arith, unsigned_abs, take_all}
use Rattle.std.proofs.Math.IntN.{+ℤ_idr}
use Rattle.std.proofs.lemmas.Int.{ints}
use Rattle.std.proofs.lemmas.Nat.{mul-le}
use Rattle.std.proofs.lemmas.List.{take_more}
use Rattle.std.proofs.lemmas.List.Sums.{sum_by-append, sum_by-take-le}
use Rattle.loop_bounds.proofs.FormLemmas.{total_push, abs_sum}
use Rattle.loop_bounds.specs.Form.{weight}
use Rattle.loop_bounds.specs.Linear.{LinearView, total}
use Rattle.loop_bounds.specs.declared.linear.Term.{Term}
use Rattle.loop_bounds.specs.declared.variable.Variable.{Variable}
use Rattle.linear_sums.specs.Sum.{IsMadeOf}

-- the terms so far, each times a value
pub record IsTotalSoFar (z : Variable → ℤ) (start sum : ℤ) (seen : List Term) : Type 0 where
  pub exact : sum ≡ start +ℤ total z seen
  pub size : unsigned_abs sum ≤ unsigned_abs start + 2 ^ 25 * weight seen

pub total_none : (z : Variable → ℤ) (start : ℤ) → IsTotalSoFar z start start []
total_none z start = record { exact = sym (+ℤ_idr start); size = omega arith }

pub total_more : (z : Variable → ℤ) (start sum : ℤ) (ts : List Term) (k : ℕ) (t : Term) (share product : ℤ) → IsTotalSoFar z start sum (take k ts) → k < length ts → t ≡ get_or ts k t → share ≡ z t.variable → unsigned_abs share < 2 ^ 25 → product ≡ t.coefficient *ℤ share → unsigned_abs product ≡ unsigned_abs t.coefficient * unsigned_abs share → IsTotalSoFar z start (sum +ℤ product) (take (k + 1) ts)
total_more z start sum ts k t share product h inside at is small product_is size =
    let more : take (k + 1) ts ≡ take k ts ++ t ∷ [] = take_more ts k t inside ∙ ap (λ (u : Term). take k ts ++ u ∷ []) (sym at) in
    let pushed = total_push z (take k ts) t in
    let here : product ≡ t.coefficient *ℤ z t.variable = product_is ∙ ap (λ n. t.coefficient *ℤ n) is in
    let heavier = sum_by-append (λ (u : Term). unsigned_abs u.coefficient) (take k ts) (t ∷ []) in
    let both = abs_sum sum product in
    let bound = mul-le (unsigned_abs t.coefficient) (unsigned_abs share) (unsigned_abs t.coefficient) (2 ^ 25) (omega arith) (omega arith) in
    let there : IsTotalSoFar z start (sum +ℤ product) (take k ts ++ t ∷ []) = record {
      exact = omega (arith, ints, h.exact, here, pushed);
      size = omega (arith, h.size, heavier, both, bound, size);
    } in
    subst (λ us. IsTotalSoFar z start (sum +ℤ product) us) (sym more) there

pub total_small : (z : Variable → ℤ) (start sum : ℤ) (s : LinearView) (ts : List Term) (k : ℕ) → IsTotalSoFar z start sum (take k ts) → ts ≡ s.terms → IsMadeOf 32 s → unsigned_abs start ≤ 2 ^ 55 → unsigned_abs sum < 2 ^ 60
total_small z start sum s ts k h same made small =
    let part = sum_by-take-le (λ (u : Term). unsigned_abs u.coefficient) ts k in
    let whole : weight ts ≡ weight s.terms = ap weight same in
    omega (arith, h.size, part, whole, made.weight)

pub total_whole : (z : Variable → ℤ) (start sum : ℤ) (s : LinearView) (ts : List Term) (k : ℕ) → IsTotalSoFar z start sum (take k ts) → ts ≡ s.terms → length ts ≤ k → sum ≡ start +ℤ total z s.terms
total_whole z start sum s ts k h same all =
    let seen : total z (take k ts) ≡ total z s.terms = ap (total z) (take_all k ts all ∙ same) in
    omega (arith, ints, h.exact, seen)
