-- A linear after a step over which one variable becomes a linear, and a choice of two ways.
use Rattle.std.proofs.Common.{◌≡◌, ◌≢◌, ℕ, Bool, true, false, get_or, ℤ, ◌+ℤ◌, ◌*ℤ◌, Some, None, refl, sym, ap, arith, All, IsTrue, inl, inr, ◌⊎◌}
use Rattle.std.proofs.lemmas.Int.{ints}
use Rattle.linear_sums.specs.declared.rewriting.LinearChange.{LinearChange}
use Rattle.loop_bounds.specs.declared.effect.Effect.{Effect}
use Rattle.loop_bounds.specs.declared.variable.Variable.{Variable}
use Rattle.loop_bounds.specs.Bounds.{Decreases, DecreasesBeside}
use Rattle.loop_bounds.specs.Effect.{Valuation, after, whole}
use Rattle.loop_bounds.specs.Linear.{LinearView, total, value}
use Rattle.loop_bounds.specs.Ranges.{Box}
use Rattle.loop_bounds.proofs.Boxes.{total_agree}
use Rattle.loop_bounds.proofs.VariableLemmas.{choice_same, choice_other}
use Rattle.check_claims.specs.declared.rewritings.Rewriting.{Rewriting}
use Rattle.check_payments.specs.Paying.{after_with, PaysRewritten}

module _ (effect : Effect) (change : LinearChange) (before free : Valuation) where
  at_change : after_with effect (Some change) before free change.variable ≡ value (whole before) change.value
  at_change = choice_same change.variable change.variable _ _ refl

  elsewhere : (v : Variable) → v ≢ change.variable → after_with effect (Some change) before free v ≡ after effect before free v
  elsewhere v other = choice_other change.variable v _ _ (λ e. other (sym e))

  -- the linear without the variable is rewritten by the effect alone, and the variable's coefficient stands before the
  -- linear that it becomes
  pub rewritten_value : (to rest : LinearView) (factor : ℤ) → ((x : Variable → ℤ) → value x to ≡ value x rest +ℤ factor *ℤ x change.variable) → All (λ t. t.variable ≢ change.variable) rest.terms → value (after_with effect (Some change) before free) to ≡ value (after effect before free) rest +ℤ factor *ℤ value (whole before) change.value
  rewritten_value to rest factor apart absent =
      let whole_linear = apart (after_with effect (Some change) before free) in
      let others : total (after_with effect (Some change) before free) rest.terms ≡ total (after effect before free) rest.terms =
      total_agree (after_with effect (Some change) before free) (after effect before free) rest.terms (λ k d p. elsewhere (get_or rest.terms k d).variable (absent k d p)) in
      let product = ap (λ (z : ℤ). factor *ℤ z) at_change in
      omega (arith, ints, whole_linear, others, product)

-- with a linear change the payment is a decrease beside its linear
pub beside_pays : (from to rest : LinearView) (cost : ℕ) (r : Rewriting) (change : LinearChange) (factor : ℤ) (source target : Box) (P : Bool) → r.change ≡ Some change → ((x : Variable → ℤ) → value x to ≡ value x rest +ℤ factor *ℤ x change.variable) → All (λ t. t.variable ≢ change.variable) rest.terms → (IsTrue P → DecreasesBeside from rest cost r.effect factor change.value source target) × (DecreasesBeside from rest cost r.effect factor change.value source target → IsTrue P) → (IsTrue P → PaysRewritten from to cost r source target) × (PaysRewritten from to cost r source target → IsTrue P)
beside_pays from to rest cost r change factor source target P is apart absent h = (
  λ t before free p q.
      let same = rewritten before free in
      let left = h.0 t before free p q in
      omega (arith, ints, same, left),
  λ pays. h.1 (λ before free p q.
      let same = rewritten before free in
      let left = pays before free p q in
      omega (arith, ints, same, left)),
)
  where
    rewritten : (before free : Valuation) → value (after_with r.effect r.change before free) to ≡ value (after r.effect before free) rest +ℤ factor *ℤ value (whole before) change.value
    rewritten before free = rw is (rewritten_value r.effect change before free to rest factor apart absent)

-- without one it is a decrease
pub plain_pays : (from to : LinearView) (cost : ℕ) (r : Rewriting) (source target : Box) (P : Bool) → r.change ≡ None → (IsTrue P → Decreases from to cost r.effect source target) × (Decreases from to cost r.effect source target → IsTrue P) → (IsTrue P → PaysRewritten from to cost r source target) × (PaysRewritten from to cost r source target → IsTrue P)
plain_pays from to cost r source target P is h = rw is h

-- ---- two ways

pub first_way : (A B : Type 0) (P : Bool) → P ≡ true → (IsTrue P → A) × (A → IsTrue P) → (IsTrue P → A ⊎ B) × (A ⊎ B → IsTrue P)
first_way A B P e h = (λ t. inl (h.0 t), λ either. e)

pub second_way : (A B : Type 0) (P Q : Bool) → P ≡ false → (IsTrue P → A) × (A → IsTrue P) → (IsTrue Q → B) × (B → IsTrue Q) → (IsTrue Q → A ⊎ B) × (A ⊎ B → IsTrue Q)
second_way A B P Q e first second = (
  λ t. inr (second.0 t),
  λ either. elim either [
    | inl a ↦ let yes = first.1 a in cc
    | inr b ↦ second.1 b
  ],
)
