-- -1 - L is a linear, and it is below 0 exactly where L is not.
use Rattle.std.proofs.Common.{◌≡◌, ◌∙◌, ℕ, ◌<◌, ◌≤◌, Bool, not, List, [], ◌∷◌, length, get_or, take, map, All, ℤ, pos, negsuc, neg_ℤ, ◌-ℤ◌, ◌+ℤ◌, ◌*ℤ◌, refl, sym, subst, ap, arith, unsigned_abs}
use Rattle.std.specs.Prelude.{IsTrue, ◌↔◌, ◌<ℤ◌}
use Rattle.std.proofs.Math.IntN.{zero-*ℤ}
use Rattle.std.proofs.lemmas.Bool.Decides.{nat_tests}
use Rattle.std.proofs.lemmas.Int.{ints}
use Rattle.std.proofs.lemmas.List.{get_or-take, get_or_default, length-map, length-take}
use Rattle.std.proofs.lemmas.List.Elements.{All-map}
use Rattle.loop_bounds.proofs.FormLemmas.{product_of_sum}
use Rattle.loop_bounds.proofs.LinearLemmas.{extended_from}
use Rattle.loop_bounds.specs.Linear.{IsLinear, LinearView, extended, total, value}
use Rattle.loop_bounds.specs.Variable.{rank_of}
use Rattle.loop_bounds.specs.declared.linear.Term.{Term}
use Rattle.loop_bounds.specs.declared.variable.Variable.{Variable}
use Rattle.flag_conditions.specs.OtherSide.{negated, with_negated}

-- ---- one more term

pub next_linear : (c : ℤ) (s : LinearView) (items : List Term) (i : ℕ) (t : Term) (mid : LinearView) → mid ≡ with_negated c (take i items) → IsLinear mid → items ≡ s.terms → IsLinear s → i < length items → t ≡ get_or items i t
    → IsLinear (extended mid (negated t))
next_linear c s items i t mid is linear same whole inside at =
    let base : IsLinear (with_negated c (take i items)) = subst IsLinear is linear in
    let there : IsLinear (record s { terms = items }) = subst (λ (ts : List Term). IsLinear (record s { terms = ts })) (sym same) whole in
    let long : length (map negated (take i items)) ≡ length (take i items) = length-map (take i items) negated in
    let cut : length (take i items) ≤ i = omega (arith, length-take i items) in
    let size = subst (λ (u : Term). (0 < unsigned_abs u.coefficient) × (unsigned_abs u.coefficient ≤ 1000000)) (sym at) (there.coefficients i t inside) in
    let small : (0 < unsigned_abs (negated t).coefficient) × (unsigned_abs (negated t).coefficient ≤ 1000000) = (omega (arith, ints, size.0), omega (arith, ints, size.1)) in
    let before : All (λ u. rank_of u.variable < rank_of (negated t).variable) (map negated (take i items)) =
    All-map (λ u. rank_of u.variable < rank_of (negated t).variable) negated (take i items)
    (λ k d p.
    let lower : k < i = omega (arith, cut, p) in
    let rising : rank_of (get_or items k d).variable < rank_of (get_or items i d).variable = there.rising k i d lower inside in
    let last : t ≡ get_or items i d = at ∙ get_or_default items i t d inside in
    let first : get_or (take i items) k d ≡ get_or items k d = get_or-take i items k d lower in
    subst (λ (u : Term). rank_of u.variable < rank_of t.variable) (sym first) (subst (λ (u : Term). rank_of (get_or items k d).variable < rank_of u.variable) (sym last) rising)) in
    subst (λ (m : LinearView). IsLinear (extended m (negated t))) (sym is) (extended_from (with_negated c (take i items)) (negated t) base (omega (arith, long, cut, there.count)) small before)

-- ---- its value

negated_product : (k n : ℤ) → neg_ℤ k *ℤ n ≡ neg_ℤ (k *ℤ n)
negated_product k n =
    let split = product_of_sum k (neg_ℤ k) n in
    let none = ap (λ z. z *ℤ n) (let e : k +ℤ neg_ℤ k ≡ pos 0 = omega (arith, ints) in e) in
    omega (arith, ints, split, none, zero-*ℤ n)

total_negated : (x : Variable → ℤ) (ts : List Term) → total x (map negated ts) ≡ neg_ℤ (total x ts)
total_negated x [] = refl
total_negated x (t ∷ ts) = omega (arith, ints, negated_product t.coefficient (x t.variable), total_negated x ts)

pub other_side_below : (x : Variable → ℤ) (s : LinearView) (b : Bool) → (IsTrue b ↔ (value x s <ℤ pos 0)) → IsTrue (not b) ↔ (value x (with_negated (negsuc 0 -ℤ s.constant) s.terms) <ℤ pos 0)
other_side_below x s b h =
    let terms = total_negated x s.terms in
    let opposite : value x (with_negated (negsuc 0 -ℤ s.constant) s.terms) ≡ negsuc 0 -ℤ value x s = omega (arith, ints, terms) in
    turned b (value x s) (value x (with_negated (negsuc 0 -ℤ s.constant) s.terms)) opposite h
  where
    turned : (c : Bool) (y z : ℤ) → z ≡ negsuc 0 -ℤ y → (IsTrue c ↔ (y <ℤ pos 0)) → IsTrue (not c) ↔ (z <ℤ pos 0)
    turned c y z e f = grind (arith, ints, nat_tests)
