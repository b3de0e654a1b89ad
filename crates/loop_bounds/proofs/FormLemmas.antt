-- A form after one more term.
use Rattle.std.proofs.Common.{◌≡◌, ◌≢◌, ℕ, zero, suc, ◌+◌, ◌<◌, ◌≤◌, List, [], ◌∷◌, ◌++◌, length, get_or, set, take, ℤ, pos, negsuc, ◌+ℤ◌, ◌-ℤ◌, ◌*ℤ◌, refl, sym, subst, ap, ◌∙◌, arith, All, HoldsAt, unsigned_abs}
use Rattle.std.proofs.Math.IntN.{one, *ℤ-one, *ℤ_comm, suc_ℤ-+ℤ, pred_ℤ-+ℤ, suc_ℤ-*ℤ, pred_ℤ-*ℤ, zero-*ℤ, +ℤ_idl}
use Rattle.std.proofs.Math.Seq.{take-set-lt}
use Rattle.std.proofs.lemmas.Int.{ints}
use Rattle.std.proofs.lemmas.List.{take_more_set, get_or-take, length-take, length-set}
use Rattle.std.proofs.lemmas.List.Sums.{sum_by-set}
use Rattle.std.proofs.lemmas.List.Quantifiers.{all_pairs_push}
use Rattle.loop_bounds.specs.declared.variable.Variable.{Variable}
use Rattle.loop_bounds.specs.declared.linear.Term.{Term}
use Rattle.loop_bounds.specs.Linear.{total}
use Rattle.loop_bounds.specs.Form.{AreDistinct, IsForm, weight}

pub product_of_sum : (a b y : ℤ) → (a +ℤ b) *ℤ y ≡ a *ℤ y +ℤ b *ℤ y
product_of_sum (pos zero) b y =
    let e = ap (λ z. z *ℤ y) (+ℤ_idl b) in
    let n = zero-*ℤ y in
    omega (arith, ints, e, n)
product_of_sum (pos (suc n)) b y =
    let e = ap (λ z. z *ℤ y) (suc_ℤ-+ℤ (pos n) b) in
    omega (arith, ints, e, suc_ℤ-*ℤ (pos n +ℤ b) y, suc_ℤ-*ℤ (pos n) y, product_of_sum (pos n) b y)
product_of_sum (negsuc zero) b y =
    let e = ap (λ z. z *ℤ y) (pred_ℤ-+ℤ (pos zero) b) in
    let k = ap (λ z. z *ℤ y) (+ℤ_idl b) in
    omega (arith, ints, e, k, pred_ℤ-*ℤ (pos zero +ℤ b) y, pred_ℤ-*ℤ (pos zero) y, zero-*ℤ y)
product_of_sum (negsuc (suc n)) b y =
    let e = ap (λ z. z *ℤ y) (pred_ℤ-+ℤ (negsuc n) b) in
    omega (arith, ints, e, pred_ℤ-*ℤ (negsuc n +ℤ b) y, pred_ℤ-*ℤ (negsuc n) y, product_of_sum (negsuc n) b y)

pub total_push : (x : Variable → ℤ) (ts : List Term) (t : Term) → total x (ts ++ t ∷ []) ≡ total x ts +ℤ t.coefficient *ℤ x t.variable
total_push x [] t = omega (arith, ints)
total_push x (u ∷ ts) t = omega (arith, ints, total_push x ts t)

total_set : (x : Variable → ℤ) (ts : List Term) (k : ℕ) (d : Term) (f : ℤ) (v : Variable) → k < length ts → (get_or ts k d).variable ≡ v → total x (set ts k (record { coefficient = (get_or ts k d).coefficient +ℤ f; variable = v })) ≡ total x ts +ℤ f *ℤ x v
total_set x [] k d f v h e = absurd (omega arith)
total_set x (t ∷ ts) zero d f v h e =
    let split = product_of_sum t.coefficient f (x v) in
    let same = ap (λ w. t.coefficient *ℤ x w) e in
    omega (arith, ints, split, same)
total_set x (t ∷ ts) (suc k) d f v h e =
    omega (arith, ints, total_set x ts k d f v (omega arith) e)

pub abs_sum : (a b : ℤ) → unsigned_abs (a +ℤ b) ≤ unsigned_abs a + unsigned_abs b
abs_sum a b = omega (arith, ints)

weight_set : (ts : List Term) (k : ℕ) (d t : Term) (f : ℤ) → k < length ts → t.coefficient ≡ (get_or ts k d).coefficient +ℤ f → weight (set ts k t) ≤ weight ts + unsigned_abs f
weight_set ts k d t f h e =
    let change = sum_by-set (λ (u : Term). unsigned_abs u.coefficient) ts k t d h in
    let size : unsigned_abs t.coefficient ≤ unsigned_abs (get_or ts k d).coefficient + unsigned_abs f =
    rw e (abs_sum (get_or ts k d).coefficient f) in
    omega (arith, change, size)

variable_set : (ts : List Term) (k : ℕ) (d t : Term) → k < length ts → t.variable ≡ (get_or ts k d).variable → (i : ℕ) (c : Term) → i < length ts → (get_or (set ts k t) i c).variable ≡ (get_or ts i c).variable
variable_set [] k d t h e i c p = absurd (omega arith)
variable_set (u ∷ ts) zero d t h e zero c p = e
variable_set (u ∷ ts) zero d t h e (suc i) c p = refl
variable_set (u ∷ ts) (suc k) d t h e zero c p = refl
variable_set (u ∷ ts) (suc k) d t h e (suc i) c p = variable_set ts k d t (omega arith) e i c (omega arith)

distinct_set : (ts : List Term) (k : ℕ) (d t : Term) → k < length ts → t.variable ≡ (get_or ts k d).variable → AreDistinct ts → AreDistinct (set ts k t)
distinct_set ts k d t h e apart i j c p q =
    let inside : j < length ts = omega (arith, length-set ts k t) in
    λ same. apart i j c p inside (sym (variable_set ts k d t h e i c (omega arith)) ∙ same ∙ variable_set ts k d t h e j c inside)

distinct_push : (ts : List Term) (t : Term) → AreDistinct ts → All (λ u. u.variable ≢ t.variable) ts → AreDistinct (ts ++ t ∷ [])
distinct_push ts t apart new = all_pairs_push (λ u v. u.variable ≢ v.variable) ts t apart new

module _ (ts : List Term) (count k : ℕ) (d t raised : Term) (form : IsForm ts count) (inside : k < length (take count ts)) (here : HoldsAt (λ u. u.variable ≡ t.variable) (take count ts) k) (is : raised ≡ record (get_or ts k d) { coefficient = (get_or ts k d).coefficient +ℤ t.coefficient }) where
  below : k < count
  below = omega (arith, length-take count ts)

  front : get_or (take count ts) k d ≡ get_or ts k d
  front = get_or-take count ts k d below

  same_variable : (get_or ts k d).variable ≡ t.variable
  same_variable = subst (λ (u : Term). u.variable ≡ t.variable) front (here d)

  same_front : take count (set ts k raised) ≡ set (take count ts) k raised
  same_front = take-set-lt count ts k raised below

  pub raised_form : IsForm (set ts k raised) count
  raised_form = record {
    places = length-set ts k raised ∙ form.places;
    within = form.within;
    distinct = subst AreDistinct (sym same_front) (distinct_set (take count ts) k d raised inside (ap (λ (u : Term). u.variable) is ∙ ap (λ (u : Term). u.variable) (sym front)) form.distinct);
  }

  pub raised_total : (x : Variable → ℤ) → total x (take count (set ts k raised)) ≡ total x (take count ts) +ℤ t.coefficient *ℤ x t.variable
  raised_total x =
      let new : raised ≡ record { coefficient = (get_or (take count ts) k d).coefficient +ℤ t.coefficient; variable = t.variable } =
      is ∙ ap (λ (v : Variable). let u : Term = record { coefficient = (get_or ts k d).coefficient +ℤ t.coefficient; variable = v } in u) same_variable
      ∙ ap (λ (u : Term). let w : Term = record { coefficient = u.coefficient +ℤ t.coefficient; variable = t.variable } in w) (sym front) in
      ap (total x) (same_front ∙ ap (set (take count ts) k) new) ∙ total_set x (take count ts) k d t.coefficient t.variable inside (here d)

  pub raised_weight : weight (take count (set ts k raised)) ≤ weight (take count ts) + unsigned_abs t.coefficient
  raised_weight =
      subst (λ us. weight us ≤ weight (take count ts) + unsigned_abs t.coefficient) (sym same_front)
      (weight_set (take count ts) k d raised t.coefficient inside (ap (λ (u : Term). u.coefficient) is ∙ ap (λ (u : Term). u.coefficient +ℤ t.coefficient) (sym front)))

module _ (ts : List Term) (count : ℕ) (t : Term) (form : IsForm ts count) (room : length (take count ts) < 9) (new : All (λ u. u.variable ≢ t.variable) (take count ts)) where
  room_here : count < length ts
  room_here = omega (arith, length-take count ts, form.places, form.within)

  pub pushed_form : IsForm (set ts count t) (count + 1)
  pushed_form = record {
    places = length-set ts count t ∙ form.places;
    within = omega (arith, room_here, form.places);
    distinct = subst AreDistinct (sym (take_more_set ts count t room_here)) (distinct_push (take count ts) t form.distinct new);
  }

  pub pushed_total : (x : Variable → ℤ) → total x (take (count + 1) (set ts count t)) ≡ total x (take count ts) +ℤ t.coefficient *ℤ x t.variable
  pushed_total x = ap (total x) (take_more_set ts count t room_here) ∙ total_push x (take count ts) t

pub raised_product : (c : ℤ) (n : ℕ) → c *ℤ (pos n +ℤ pos 1) ≡ c *ℤ pos n +ℤ c
unfolding one
raised_product c n =
    let turned = *ℤ_comm c (pos n +ℤ pos 1) in
    let split = product_of_sum (pos n) (pos 1) c in
    let first = *ℤ_comm (pos n) c in
    let once : c *ℤ pos 1 ≡ c = *ℤ-one c in
    let second = *ℤ_comm (pos 1) c in
    omega (arith, ints, turned, split, first, once, second)

pub lowered_product : (c : ℤ) (n : ℕ) → c *ℤ (pos n -ℤ pos 1) ≡ c *ℤ pos n -ℤ c
unfolding one
lowered_product c n =
    let split = product_of_sum (pos n -ℤ pos 1) (pos 1) c in
    let back : pos n -ℤ pos 1 +ℤ pos 1 ≡ pos n = omega (arith, ints) in
    let whole = ap (λ z. z *ℤ c) back in
    let turned = *ℤ_comm c (pos n -ℤ pos 1) in
    let first = *ℤ_comm (pos n) c in
    let once : c *ℤ pos 1 ≡ c = *ℤ-one c in
    let second = *ℤ_comm (pos 1) c in
    omega (arith, ints, turned, split, whole, first, once, second)
