-- Sums and their values.
use Rattle.std.proofs.Common.{◌≡◌, ℕ, ◌+◌, ◌<◌, ◌≤◌, ◌^◌, Bool, List, [], ◌∷◌, ◌++◌, length, get_or, take, map, ℤ, ◌+ℤ◌, ◌*ℤ◌, refl, sym, subst, ap, ◌∙◌, arith, append_assoc, length-append, unsigned_abs, true, false, take_all}
use Rattle.std.proofs.Math.IntN.{*ℤ-zero}
use Rattle.std.proofs.lemmas.Int.{ints}
use Rattle.std.proofs.lemmas.List.{take_more, length-take}
use Rattle.std.proofs.lemmas.List.Sums.{sum_by-append, sum_by-take-le}
use Rattle.loop_bounds.specs.Form.{weight}
use Rattle.loop_bounds.specs.Linear.{LinearView, total, value}
use Rattle.loop_bounds.specs.declared.linear.Term.{Term}
use Rattle.loop_bounds.specs.declared.variable.Variable.{Variable}
use Rattle.linear_sums.specs.Sum.{IsMadeOf, sign, multiplied, plus_term, plus_multiple}
use Rattle.linear_sums.proofs.Products.{sum_of_products, product_of_products, minus_once, one_times}

-- ---- the room

pub made_wider : (s : LinearView) (count more : ℕ) → count ≤ more → IsMadeOf count s → IsMadeOf more s
made_wider s count more le h = record {
  terms = omega (arith, h.terms);
  weight = omega (arith, h.weight);
  constant = omega (arith, h.constant);
}

-- multiples of terms behind the old ones
abbrev pub with_more : LinearView → ℤ → List Term → LinearView
with_more s k ts = record s { terms = s.terms ++ map (multiplied k) ts }

map_push : (k : ℤ) (ts : List Term) (t : Term) → map (multiplied k) (ts ++ t ∷ []) ≡ map (multiplied k) ts ++ multiplied k t ∷ []
map_push k [] t = refl
map_push k (u ∷ ts) t = ap (λ us. multiplied k u ∷ us) (map_push k ts t)

append_nothing : (ts : List Term) → ts ++ [] ≡ ts
append_nothing [] = refl
append_nothing (t ∷ ts) = ap (λ us. t ∷ us) (append_nothing ts)

pub with_none : (s : LinearView) (k : ℤ) → s ≡ with_more s k []
with_none s k = ap (λ (ts : List Term). let t : LinearView = record s { terms = ts } in t) (sym (append_nothing s.terms))

pub with_one_more : (old mid new : LinearView) (k : ℤ) (ts : List Term) (count : ℕ) (t : Term) (coefficient : ℤ) → mid ≡ with_more old k (take count ts) → count < length ts → t ≡ get_or ts count t → coefficient ≡ k *ℤ t.coefficient → new ≡ plus_term mid coefficient t.variable → new ≡ with_more old k (take (count + 1) ts)
with_one_more old mid new k ts count t coefficient h inside at product is =
    let more : take (count + 1) ts ≡ take count ts ++ t ∷ [] = take_more ts count t inside ∙ ap (λ (u : Term). take count ts ++ u ∷ []) (sym at) in
    let mapped = ap (map (multiplied k)) more ∙ map_push k (take count ts) t in
    let last : (let u : Term = record { coefficient = coefficient; variable = t.variable } in u) ≡ multiplied k t = ap (λ (z : ℤ). let u : Term = record { coefficient = z; variable = t.variable } in u) product in
    let terms : mid.terms ++ record { coefficient = coefficient; variable = t.variable } ∷ [] ≡ old.terms ++ map (multiplied k) (take (count + 1) ts) =
    ap (λ (u : Term). mid.terms ++ u ∷ []) last
    ∙ ap (λ (s : LinearView). s.terms ++ multiplied k t ∷ []) h
    ∙ append_assoc old.terms (map (multiplied k) (take count ts)) (multiplied k t ∷ [])
    ∙ ap (λ us. old.terms ++ us) (sym mapped) in
    let constant : mid.constant ≡ old.constant = ap (λ (s : LinearView). s.constant) h in
    is ∙ ap (λ (us : List Term). let s : LinearView = record { constant = mid.constant; terms = us } in s) terms
    ∙ ap (λ (z : ℤ). let s : LinearView = record { constant = z; terms = old.terms ++ map (multiplied k) (take (count + 1) ts) } in s) constant

-- ---- the weight of a sum's terms and of their negations

sign_times : (negated : Bool) (z : ℤ) → unsigned_abs (sign negated *ℤ z) ≡ unsigned_abs z
sign_times true z = omega (arith, ints, minus_once z)
sign_times false z = omega (arith, ints, one_times z)

weight_signed : (negated : Bool) (ts : List Term) → weight (map (multiplied (sign negated)) ts) ≡ weight ts
weight_signed negated [] = refl
weight_signed negated (t ∷ ts) =
    let left = sum_by-append (λ (u : Term). unsigned_abs u.coefficient) (multiplied (sign negated) t ∷ []) (map (multiplied (sign negated)) ts) in
    let right = sum_by-append (λ (u : Term). unsigned_abs u.coefficient) (t ∷ []) ts in
    omega (arith, left, right, sign_times negated t.coefficient, weight_signed negated ts)

length_multiplied : (k : ℤ) (ts : List Term) → length (map (multiplied k) ts) ≡ length ts
length_multiplied k [] = refl
length_multiplied k (t ∷ ts) = omega (arith, length_multiplied k ts)

pub weight_with : (negated : Bool) (s : LinearView) (ts : List Term) → weight (with_more s (sign negated) ts).terms ≡ weight s.terms + weight ts
weight_with negated s ts =
    let both = sum_by-append (λ (u : Term). unsigned_abs u.coefficient) s.terms (map (multiplied (sign negated)) ts) in
    omega (arith, both, weight_signed negated ts)

pub length_with : (k : ℤ) (s : LinearView) (ts : List Term) → length (with_more s k ts).terms ≡ length s.terms + length ts
length_with k s ts = omega (arith, length-append s.terms (map (multiplied k) ts), length_multiplied k ts)

-- one more term of the other sum fits
pub next_fits : (negated : Bool) (start mid other : LinearView) (ts : List Term) (count : ℕ) (t : Term) (coefficient : ℤ) → ts ≡ other.terms → weight start.terms ≤ 4096000000 → length start.terms ≤ 16 → IsMadeOf 16 other → mid ≡ with_more start (sign negated) (take count ts) → count < length ts → t ≡ get_or ts count t → coefficient ≡ sign negated *ℤ t.coefficient → (length mid.terms < 32) × (weight mid.terms + unsigned_abs coefficient ≤ 8192000000)
next_fits negated start mid other ts count t coefficient same light short more is inside at product =
    let long : length mid.terms ≡ length start.terms + length (take count ts) = ap (λ (s : LinearView). length s.terms) is ∙ length_with (sign negated) start (take count ts) in
    let heavy : weight mid.terms ≡ weight start.terms + weight (take count ts) = ap (λ (s : LinearView). weight s.terms) is ∙ weight_with negated start (take count ts) in
    let next : take (count + 1) ts ≡ take count ts ++ t ∷ [] = take_more ts count t inside ∙ ap (λ (u : Term). take count ts ++ u ∷ []) (sym at) in
    let last = ap weight next ∙ sum_by-append (λ (u : Term). unsigned_abs u.coefficient) (take count ts) (t ∷ []) in
    let part = sum_by-take-le (λ (u : Term). unsigned_abs u.coefficient) ts (count + 1) in
    let whole : weight ts ≡ weight other.terms = ap weight same in
    let size : unsigned_abs coefficient ≡ unsigned_abs t.coefficient = ap unsigned_abs product ∙ sign_times negated t.coefficient in
    let many : length ts ≡ length other.terms = ap length same in (
      omega (arith, long, many, length-take count ts, short, more.terms),
      omega (arith, heavy, last, part, whole, size, light, more.weight),
    )

pub constant_fits : (negated : Bool) (start other : LinearView) (constant by : ℤ) → IsMadeOf 16 start → IsMadeOf 16 other → constant ≡ other.constant → by ≡ sign negated *ℤ constant → unsigned_abs start.constant + unsigned_abs by ≤ 2 ^ 55
constant_fits negated start other constant by room more same is =
    let size : unsigned_abs by ≡ unsigned_abs other.constant = ap unsigned_abs is ∙ sign_times negated constant ∙ ap unsigned_abs same in
    omega (arith, size, room.constant, more.constant)

pub whole_sum : (negated : Bool) (start shifted last other : LinearView) (ts : List Term) (count : ℕ) (constant by : ℤ) → ts ≡ other.terms → constant ≡ other.constant → by ≡ sign negated *ℤ constant → shifted ≡ record start { constant = start.constant +ℤ by } → last ≡ with_more shifted (sign negated) (take count ts) → length ts ≤ count → last ≡ plus_multiple start (sign negated) other
whole_sum negated start shifted last other ts count constant by same same_constant is moved at_end all =
    let items = take_all count ts all ∙ same in
    at_end
    ∙ ap (λ us. with_more shifted (sign negated) us) items
    ∙ ap (λ (s : LinearView). with_more s (sign negated) other.terms) moved
    ∙ ap (λ z. with_more (record start { constant = start.constant +ℤ z }) (sign negated) other.terms) (is ∙ ap (λ z. sign negated *ℤ z) same_constant)

pub sum_room : (negated : Bool) (start last other : LinearView) → last ≡ plus_multiple start (sign negated) other → (count more : ℕ) → IsMadeOf count start → IsMadeOf more other → IsMadeOf (count + more) last
sum_room negated start last other is count more h k =
    let there : IsMadeOf (count + more) (plus_multiple start (sign negated) other) = record {
      terms = omega (arith, length_with (sign negated) start other.terms, h.terms, k.terms);
      weight = omega (arith, weight_with negated start other.terms, h.weight, k.weight);
      constant = omega (arith, ints, sign_times negated other.constant, h.constant, k.constant);
    } in
    subst (λ (s : LinearView). IsMadeOf (count + more) s) (sym is) there

-- ---- values

pub total_append : (x : Variable → ℤ) (ts us : List Term) → total x (ts ++ us) ≡ total x ts +ℤ total x us
total_append x [] us = omega (arith, ints)
total_append x (t ∷ ts) us = omega (arith, ints, total_append x ts us)

pub total_multiplied : (x : Variable → ℤ) (k : ℤ) (ts : List Term) → total x (map (multiplied k) ts) ≡ k *ℤ total x ts
total_multiplied x k [] = sym (*ℤ-zero k)
total_multiplied x k (t ∷ ts) =
    let first = product_of_products k t.coefficient (x t.variable) in
    let split = sum_of_products k (t.coefficient *ℤ x t.variable) (total x ts) in
    omega (arith, ints, first, split, total_multiplied x k ts)

pub value_plus_multiple : (x : Variable → ℤ) (s : LinearView) (k : ℤ) (t : LinearView) → value x (plus_multiple s k t) ≡ value x s +ℤ k *ℤ value x t
value_plus_multiple x s k t =
    let both = total_append x s.terms (map (multiplied k) t.terms) in
    let times = total_multiplied x k t.terms in
    let split = sum_of_products k t.constant (total x t.terms) in
    omega (arith, ints, both, times, split)
