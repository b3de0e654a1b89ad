-- A linear taken apart: the coefficient of a variable, and the rest.
use Rattle.std.proofs.Common.{◌≡◌, ◌≢◌, ℕ, ◌+◌, ◌<◌, ◌≤◌, [], ◌∷◌, ◌++◌, length, get_or, take, ℤ, pos, ◌+ℤ◌, ◌*ℤ◌, refl, sym, subst, ap, ◌∙◌, arith, inl, inr, ◌⊎◌, length-append, All, unsigned_abs, take_all}
use Rattle.std.proofs.Math.IntN.{zero-*ℤ}
use Rattle.std.proofs.lemmas.Int.{ints}
use Rattle.std.proofs.lemmas.List.{take_more, get_or_default}
use Rattle.std.proofs.lemmas.List.Elements.{All-push}
use Rattle.loop_bounds.specs.declared.linear.Term.{Term}
use Rattle.loop_bounds.specs.declared.variable.Variable.{Variable}
use Rattle.loop_bounds.specs.Variable.{rank_of}
use Rattle.loop_bounds.specs.Linear.{LinearView, IsLinear, extended, total, value}
use Rattle.loop_bounds.proofs.FormLemmas.{total_push}
use Rattle.loop_bounds.proofs.LinearLemmas.{extended_from}
use Rattle.loop_bounds.proofs.SoFar.{IsApartSoFar}

-- the constant alone
constant_linear : (s : LinearView) → IsLinear s → IsLinear (record { constant = s.constant; terms = [] })
constant_linear s h = record {
  constant = h.constant;
  count = omega arith;
  coefficients = λ i d p. absurd (omega arith);
  rising = λ i j d p q. absurd (omega arith);
}

pub apart_none : (s : LinearView) (v : Variable) → IsLinear s → IsApartSoFar s v 0 (record { constant = s.constant; terms = [] }) (pos 0)
apart_none s v h = record {
  linear = constant_linear s h;
  constant = refl;
  value = λ x. omega (arith, ints, zero-*ℤ (x v));
  absent = λ i d p. absurd (omega arith);
  short = omega arith;
  rising = λ i d p q j e r. absurd (omega arith);
  size = omega arith;
  alone = inl refl;
}

module _ (s : LinearView) (v : Variable) (k : ℕ) (rest : LinearView) (c : ℤ) (t : Term) (linear : IsLinear s) (so_far : IsApartSoFar s v k rest c) (inside : k < length s.terms) (at : t ≡ get_or s.terms k t) where
  front_more : take (k + 1) s.terms ≡ take k s.terms ++ t ∷ []
  front_more = take_more s.terms k t inside ∙ ap (λ (u : Term). take k s.terms ++ u ∷ []) (sym at)

  total_more : (x : Variable → ℤ) → total x (take (k + 1) s.terms) ≡ total x rest.terms +ℤ c *ℤ x v +ℤ t.coefficient *ℤ x t.variable
  total_more x =
      let same = ap (total x) front_more in
      let push = total_push x (take k s.terms) t in
      omega (arith, ints, same, push, so_far.value x)

  small_term : (0 < unsigned_abs t.coefficient) × (unsigned_abs t.coefficient ≤ 1000000)
  small_term = subst (λ (u : Term). (0 < unsigned_abs u.coefficient) × (unsigned_abs u.coefficient ≤ 1000000)) (sym at) (linear.coefficients k t inside)

  front : (d : Term) → get_or s.terms k d ≡ t
  front d = get_or_default s.terms k d t inside ∙ sym at

  after_term : (i : ℕ) (d : Term) → k + 1 ≤ i → i < length s.terms → rank_of t.variable < rank_of (get_or s.terms i d).variable
  after_term i d p q =
      subst (λ (u : Term). rank_of u.variable < rank_of (get_or s.terms i d).variable) (front d) (linear.rising k i d (omega arith) q)

  before_term : All (λ u. rank_of u.variable < rank_of t.variable) rest.terms
  before_term =
      subst (λ (u : Term). All (λ w. rank_of w.variable < rank_of u.variable) rest.terms) (front t) (so_far.rising k t (omega arith) inside)

  -- the term of the variable itself
  pub apart_here : t.variable ≡ v → IsApartSoFar s v (k + 1) rest t.coefficient
  apart_here e = record {
    linear = so_far.linear;
    constant = so_far.constant;
    value = λ x.
        let none = first_time so_far.alone in
        let gone = ap (λ z. z *ℤ x v) none in
        let here = ap (λ w. t.coefficient *ℤ x w) e in
        omega (arith, ints, total_more x, gone, zero-*ℤ (x v), here);
    absent = so_far.absent;
    short = omega (arith, so_far.short);
    rising = λ i d p q. so_far.rising i d (omega arith) q;
    size = small_term.1;
    alone = inr (λ i d p q. subst (λ w. rank_of w < rank_of (get_or s.terms i d).variable) e (after_term i d p q));
  }
    where
      first_time : (c ≡ pos 0) ⊎ ((i : ℕ) (d : Term) → k ≤ i → i < length s.terms → rank_of v < rank_of (get_or s.terms i d).variable) → c ≡ pos 0
      first_time (inl z) = z
      first_time (inr later) =
          let less = later k t (omega arith) inside in
          let same : rank_of (get_or s.terms k t).variable ≡ rank_of v = ap (λ (u : Term). rank_of u.variable) (front t) ∙ ap rank_of e in
          absurd (omega (arith, less, same))

  room_left : length s.terms ≤ 3 → length rest.terms < 3
  room_left h = omega (arith, so_far.short)

  pub longer_linear : IsLinear (extended rest t)
  longer_linear = extended_from rest t so_far.linear (room_left linear.count) small_term before_term

  -- a term of another variable
  pub apart_other : t.variable ≢ v → IsApartSoFar s v (k + 1) (extended rest t) c
  apart_other other = record {
    linear = longer_linear;
    constant = so_far.constant;
    value = λ x.
        let push = total_push x rest.terms t in
        omega (arith, ints, total_more x, push);
    absent = All-push (λ u. u.variable ≢ v) rest.terms t so_far.absent other;
    short = omega (arith, so_far.short, length-append rest.terms (t ∷ []));
    rising = λ i d p q. All-push (λ u. rank_of u.variable < rank_of (get_or s.terms i d).variable) rest.terms t (so_far.rising i d (omega arith) q) (after_term i d p q);
    size = so_far.size;
    alone = later_alone so_far.alone;
  }
    where
      later_alone : (c ≡ pos 0) ⊎ ((i : ℕ) (d : Term) → k ≤ i → i < length s.terms → rank_of v < rank_of (get_or s.terms i d).variable) → (c ≡ pos 0) ⊎ ((i : ℕ) (d : Term) → k + 1 ≤ i → i < length s.terms → rank_of v < rank_of (get_or s.terms i d).variable)
      later_alone (inl z) = inl z
      later_alone (inr later) = inr (λ i d p q. later i d (omega arith) q)

pub apart_all : (s : LinearView) (v : Variable) (k : ℕ) (rest : LinearView) (c : ℤ) → IsApartSoFar s v k rest c → length s.terms ≤ k → (x : Variable → ℤ) → value x s ≡ value x rest +ℤ c *ℤ x v
apart_all s v k rest c so_far all x =
    let whole = ap (total x) (take_all k s.terms all) in
    omega (arith, ints, so_far.constant, so_far.value x, whole)
