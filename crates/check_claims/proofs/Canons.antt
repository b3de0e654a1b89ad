-- Canons of differences, and of a linear as a sum.
use Rattle.std.proofs.Common.{◌≡◌, ◌∙◌, ℤ, pos, ◌+ℤ◌, ◌*ℤ◌, Option, Some, None, refl, sym, ap, arith, map, inl, inr}
use Rattle.std.proofs.Math.IntN.{+ℤ_idl}
use Rattle.std.proofs.lemmas.Int.{ints}
use Rattle.loop_bounds.specs.Linear.{LinearView, total}
use Rattle.loop_bounds.specs.Ranges.{Box}
use Rattle.loop_bounds.specs.declared.variable.Variable.{Variable}
use Rattle.linear_sums.proofs.Products.{one_times}
use Rattle.linear_sums.proofs.SumLemmas.{total_append, total_multiplied, value_plus_multiple}
use Rattle.linear_sums.specs.Bytes.{byte_form}
use Rattle.linear_sums.specs.Canon.{canon, share, IsZeroIn, IsMultipleIn}
use Rattle.linear_sums.specs.Sum.{multiplied, plus_multiple}
use Rattle.check_claims.specs.Zeros.{no_sum}

pub canon_of_sum : (box : Box) (s : LinearView) (k : ℤ) (t : LinearView) (at : Option Variable) → canon (plus_multiple s k t) box at ≡ canon s box at +ℤ k *ℤ canon t box at
canon_of_sum box s k t None = value_plus_multiple (byte_form (share box None)) s k t
canon_of_sum box s k t (Some v) =
    let x = byte_form (share box (Some v)) in
    let both = total_append x s.terms (map (multiplied k) t.terms) in
    let times = total_multiplied x k t.terms in
    let same : k *ℤ (pos 0 +ℤ total x t.terms) ≡ k *ℤ total x t.terms = ap (λ n. k *ℤ n) (+ℤ_idl (total x t.terms)) in
    omega (arith, ints, both, times, same)

canon_of_none : (box : Box) (at : Option Variable) → canon no_sum box at ≡ pos 0
canon_of_none box None = refl
canon_of_none box (Some v) = refl

-- a linear as a sum has its canon
pub canon_alone : (box : Box) (s : LinearView) (at : Option Variable) → canon (plus_multiple no_sum (pos 1) s) box at ≡ canon s box at
canon_alone box s at =
    let sum = canon_of_sum box no_sum (pos 1) s at in
    let none = canon_of_none box at in
    let once = one_times (canon s box at) in
    omega (arith, ints, sum, none, once)

pub canon_beside : (box : Box) (s : LinearView) (k : ℤ) (t : LinearView) (at : Option Variable) → canon (plus_multiple (plus_multiple no_sum (pos 1) s) k t) box at ≡ canon (plus_multiple s k t) box at
canon_beside box s k t at =
    let first = canon_of_sum box (plus_multiple no_sum (pos 1) s) k t at in
    let alone = canon_alone box s at in
    let second = canon_of_sum box s k t at in
    omega (arith, ints, first, alone, second)

-- ---- what says the same of equal canons

pub zero_of_same : (box : Box) (s t : LinearView) → ((at : Option Variable) → canon s box at ≡ canon t box at) → IsZeroIn box s → IsZeroIn box t
zero_of_same box s t same zero at = sym (same at) ∙ zero at

pub multiple_of_same : (box : Box) (s t u : LinearView) → ((at : Option Variable) → canon t box at ≡ canon u box at) → IsMultipleIn box s t → IsMultipleIn box s u
multiple_of_same box s t u same (inl zero) = inl zero
multiple_of_same box s t u same (inr (k, j, p, q, h)) = inr (k, j, p, q, λ at. h at ∙ ap (λ n. j *ℤ n) (same at))
