-- The value of a rewritten linear.
use Rattle.std.proofs.Common.{◌≡◌, ◌≢◌, ℕ, zero, suc, ◌+◌, ◌<◌, ◌≤◌, eqb, List, [], ◌∷◌, length, get_or, drop, ℤ, pos, neg_ℤ, ◌+ℤ◌, ◌-ℤ◌, ◌*ℤ◌, Option, Some, None, refl, sym, ap, ◌∙◌, arith, rules, All, inl, inr, add-one, drop-cons}
use Rattle.std.specs.Prelude.{option_and_then}
use Rattle.std.proofs.lemmas.Bool.{cases_Bool, eqb-true}
use Rattle.std.proofs.lemmas.Int.{ints}
use Rattle.std.proofs.lemmas.List.Elements.{All-head, All-tail}
use Rattle.loop_bounds.proofs.FormLemmas.{total_push}
use Rattle.loop_bounds.proofs.VariableLemmas.{same_from_rank}
use Rattle.loop_bounds.specs.Effect.{Valuation, whole, changed, change_of}
use Rattle.loop_bounds.specs.Linear.{LinearView, total, value}
use Rattle.loop_bounds.specs.Variable.{rank_of}
use Rattle.loop_bounds.specs.declared.effect.Change.{Change}
use Rattle.loop_bounds.specs.declared.effect.Change.TheVariants.{Old, Raised, Lowered, Constant, Unknown}
use Rattle.loop_bounds.specs.declared.effect.Effect.{Effect}
use Rattle.loop_bounds.specs.declared.linear.Term.{Term}
use Rattle.loop_bounds.specs.declared.variable.Variable.{Variable}
use Rattle.linear_sums.specs.Sum.{plus_term, plus_multiple}
use Rattle.linear_sums.specs.Rewriting.{plus_change, plus_after, plus_each_after, rewritten, FollowsEffect}
use Rattle.linear_sums.specs.declared.rewriting.LinearChange.{LinearChange}
use Rattle.linear_sums.proofs.Products.{sum_of_products, times_one}
use Rattle.linear_sums.proofs.SumLemmas.{value_plus_multiple}

-- ---- one change

value_plus_term : (x : Variable → ℤ) (s : LinearView) (k : ℤ) (v : Variable) → value x (plus_term s k v) ≡ value x s +ℤ k *ℤ x v
value_plus_term x s k v = omega (arith, ints, total_push x s.terms (record { coefficient = k; variable = v }))

one_more : (k a : ℤ) → k *ℤ (a +ℤ pos 1) ≡ k *ℤ a +ℤ k
one_more k a = sum_of_products k a (pos 1) ∙ ap (λ z. k *ℤ a +ℤ z) (times_one k)

one_less : (k a : ℤ) → k *ℤ (a -ℤ pos 1) ≡ k *ℤ a +ℤ neg_ℤ k
one_less k a =
    let back : a -ℤ pos 1 +ℤ pos 1 ≡ a = omega (arith, ints) in
    let more = one_more k (a -ℤ pos 1) in
    let same = ap (λ z. k *ℤ z) back in
    omega (arith, ints, more, same)

module _ (before : Valuation) (s : LinearView) (k n : ℤ) where
  pub change_value : (change : Change) (t : LinearView) → plus_change s k change ≡ Some t → changed change before n ≡ n → value (whole before) t ≡ value (whole before) s +ℤ k *ℤ n
  change_value (Old v) t e h =
      let is : plus_term s k v ≡ t = cc in
      ap (value (whole before)) (sym is) ∙ value_plus_term (whole before) s k v ∙ ap (λ z. value (whole before) s +ℤ k *ℤ z) h
  change_value (Raised v) t e h =
      let is : (let u : LinearView = record { constant = s.constant +ℤ k; terms = (plus_term s k v).terms } in u) ≡ t = cc in
      let sum = ap (value (whole before)) (sym is) in
      let term = value_plus_term (whole before) s k v in
      let product = one_more k (pos (before v)) in
      let last = ap (λ z. k *ℤ z) h in
      omega (arith, ints, sum, term, product, last)
  change_value (Lowered v) t e h =
      let is : (let u : LinearView = record { constant = s.constant +ℤ neg_ℤ k; terms = (plus_term s k v).terms } in u) ≡ t = cc in
      let sum = ap (value (whole before)) (sym is) in
      let term = value_plus_term (whole before) s k v in
      let product = one_less k (pos (before v)) in
      let last = ap (λ z. k *ℤ z) h in
      omega (arith, ints, sum, term, product, last)
  change_value (Constant c) t e h =
      let is : (let u : LinearView = record s { constant = s.constant +ℤ k *ℤ pos c } in u) ≡ t = cc in
      let sum = ap (value (whole before)) (sym is) in
      let last = ap (λ z. k *ℤ z) h in
      omega (arith, ints, sum, last)
  change_value Unknown t e h = cc

-- ---- one term

after_value : (effect : Effect) (c : Option LinearChange) (before : Valuation) (s : LinearView) (u : Term) (n : ℕ) (t : LinearView) → FollowsEffect effect c before u.variable n → plus_after effect c s u ≡ Some t → value (whole before) t ≡ value (whole before) s +ℤ u.coefficient *ℤ pos n
after_value effect None before s u n t follows e = change_value before s u.coefficient (pos n) (change_of effect u.variable) t e follows
after_value effect (Some c) before s u n t follows e =
    elim (cases_Bool (eqb (rank_of c.variable) (rank_of u.variable))) [
      | inl same ↦
          let is : u.variable ≡ c.variable = same_from_rank u.variable c.variable (sym (eqb-true _ _ same)) in
          let there = rw same at e in
          let sum : plus_multiple s u.coefficient c.value ≡ t = cc in
          ap (value (whole before)) (sym sum) ∙ value_plus_multiple (whole before) s u.coefficient c.value ∙ ap (λ z. value (whole before) s +ℤ u.coefficient *ℤ z) (sym (follows.0 is))
      | inr other ↦
          let there = rw other at e in
          let apart : u.variable ≢ c.variable = λ is. let ranks : rank_of c.variable ≡ rank_of u.variable = ap rank_of (sym is) in search rules in
          change_value before s u.coefficient (pos n) (change_of effect u.variable) t there (follows.1 apart)
    ]

-- ---- all terms

module _ (effect : Effect) (c : Option LinearChange) (before after : Valuation) where
  onward : (u : Term) (ts : List Term) (s t : LinearView) → FollowsEffect effect c before u.variable (after u.variable) → (o : Option LinearView) → plus_after effect c s u ≡ o → option_and_then (plus_each_after effect c ts) o ≡ Some t → ((r : LinearView) → plus_each_after effect c ts r ≡ Some t → value (whole before) t ≡ value (whole before) r +ℤ total (whole after) ts) → value (whole before) t ≡ value (whole before) s +ℤ total (whole after) (u ∷ ts)
  onward u ts s t h None is e rest = cc
  onward u ts s t h (Some r) is e rest =
      let first = after_value effect c before s u (after u.variable) r h is in
      let last = rest r e in
      omega (arith, ints, first, last)

  each_value : (ts : List Term) (s t : LinearView) → All (λ u. FollowsEffect effect c before u.variable (after u.variable)) ts → plus_each_after effect c ts s ≡ Some t → value (whole before) t ≡ value (whole before) s +ℤ total (whole after) ts
  each_value [] s t h e = let is : s ≡ t = cc in let same = ap (value (whole before)) is in omega (arith, ints, same)
  each_value (u ∷ ts) s t h e =
      onward u ts s t (All-head (λ (w : Term). FollowsEffect effect c before w.variable (after w.variable)) u ts h) (plus_after effect c s u) refl e
      (λ r. each_value ts r t (All-tail (λ (w : Term). FollowsEffect effect c before w.variable (after w.variable)) u ts h))

  -- the value after the step is that of the rewritten sum before it
  pub rewritten_value : (s t : LinearView) → rewritten effect c s ≡ Some t → All (λ u. FollowsEffect effect c before u.variable (after u.variable)) s.terms → value (whole after) s ≡ value (whole before) t
  rewritten_value s t e h =
      let sum = each_value s.terms (record { constant = s.constant; terms = [] }) t h e in
      omega (arith, ints, sum)

-- ---- the loop

module _ (effect : Effect) (c : Option LinearChange) (items : List Term) (k : ℕ) (t : Term) (s : LinearView) (inside : k < length items) (at : t ≡ get_or items k t) where
  rest_is : plus_each_after effect c (drop k items) s ≡ plus_each_after effect c (t ∷ drop (k + 1) items) s
  rest_is =
      let here : drop k items ≡ t ∷ drop (k + 1) items = rw (add-one, drop-cons items k t) (ap (λ (u : Term). u ∷ drop (suc k) items) (sym at)) in
      ap (λ (ts : List Term). plus_each_after effect c ts s) here

  pub goes_on : (next : LinearView) → plus_after effect c s t ≡ Some next → plus_each_after effect c (drop k items) s ≡ plus_each_after effect c (drop (k + 1) items) next
  goes_on next e = rest_is ∙ rw e refl

  pub goes_no_further : plus_after effect c s t ≡ None → plus_each_after effect c (drop k items) s ≡ None
  goes_no_further e = rest_is ∙ rw e refl

nothing_behind : (ts : List Term) (k : ℕ) → length ts ≤ k → drop k ts ≡ []
nothing_behind [] zero h = refl
nothing_behind [] (suc k) h = refl
nothing_behind (t ∷ ts) zero h = absurd (omega arith)
nothing_behind (t ∷ ts) (suc k) h = nothing_behind ts k (omega arith)

pub all_done : (effect : Effect) (c : Option LinearChange) (items : List Term) (k : ℕ) (s : LinearView) → length items ≤ k → plus_each_after effect c (drop k items) s ≡ Some s
all_done effect c items k s h = ap (λ (ts : List Term). plus_each_after effect c ts s) (nothing_behind items k h)
