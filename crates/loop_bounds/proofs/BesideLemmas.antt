-- A form after a multiple of a linear was added, and what that says of the step.
use Rattle.std.proofs.Common.{◌≡◌, ℕ, ◌+◌, ◌*◌, ◌<◌, ◌≤◌, ◌^◌, List, [], ◌∷◌, ◌++◌, length, get_or, take, ℤ, pos, neg_ℤ, ◌+ℤ◌, ◌-ℤ◌, ◌*ℤ◌, ◌≤ℤ◌, Bool, IsTrue, refl, sym, subst, ap, ◌∙◌, arith, unsigned_abs, take_all}
use Rattle.std.proofs.Math.IntN.{*ℤ-zero}
use Rattle.std.proofs.lemmas.Int.{ints, unsigned_abs-mul}
use Rattle.std.proofs.lemmas.Nat.{mul-le}
use Rattle.std.proofs.lemmas.List.{take_more}
use Rattle.loop_bounds.specs.declared.effect.Effect.{Effect}
use Rattle.loop_bounds.specs.declared.linear.Term.{Term}
use Rattle.loop_bounds.specs.declared.rewritten.Rewritten.{Rewritten}
use Rattle.loop_bounds.specs.declared.variable.Variable.{Variable}
use Rattle.loop_bounds.specs.Bounds.{DecreasesBeside}
use Rattle.loop_bounds.specs.Effect.{Valuation, whole, after}
use Rattle.loop_bounds.specs.Form.{weight}
use Rattle.loop_bounds.specs.Linear.{LinearView, total, value}
use Rattle.loop_bounds.specs.Ranges.{Box, LiesIn}
use Rattle.loop_bounds.specs.Rewritten.{IsWithinRoom, IsLight, value_of_both}
use Rattle.loop_bounds.proofs.FormLemmas.{total_push}
use Rattle.loop_bounds.proofs.Products.{sum_of_products, product_of_products}
use Rattle.loop_bounds.proofs.RewrittenLemmas.{neg_product}
use Rattle.loop_bounds.proofs.SoFar.{HasAddedScaled}

-- the size of a product
pub product_size : (f c : ℤ) (m n : ℕ) → unsigned_abs f ≤ m → unsigned_abs c ≤ n → unsigned_abs (f *ℤ c) ≤ m * n
product_size f c m n p q = rw unsigned_abs-mul (mul-le (unsigned_abs f) (unsigned_abs c) m n p q)

pub scaled_none : (s : LinearView) (f : ℤ) → HasAddedScaled s s f [] 0
scaled_none s f = record {
  sum = λ x. omega (arith, ints, *ℤ-zero f);
  constant = refl;
  short = omega arith;
  light = omega arith;
}

-- one more term
pub scaled_more : (old mid new : LinearView) (f c : ℤ) (ts : List Term) (k : ℕ) (t : Term) → HasAddedScaled old mid f (take k ts) k → k < length ts → t ≡ get_or ts k t → c ≡ f *ℤ t.coefficient → unsigned_abs c ≤ 256000000 → ((x : Variable → ℤ) → total x new.terms ≡ total x mid.terms +ℤ c *ℤ x t.variable) → new.constant ≡ mid.constant → length new.terms ≤ length mid.terms + 1 → weight new.terms ≤ weight mid.terms + unsigned_abs c → HasAddedScaled old new f (take (k + 1) ts) (k + 1)
scaled_more old mid new f c ts k t so_far inside at is small plus constant longer heavier =
    let front_more : take (k + 1) ts ≡ take k ts ++ t ∷ [] = take_more ts k t inside ∙ ap (λ (u : Term). take k ts ++ u ∷ []) (sym at) in
    record {
      sum = λ x.
          let push = ap (λ (z : ℤ). f *ℤ z) (ap (total x) front_more ∙ total_push x (take k ts) t) in
          let split = sum_of_products f (total x (take k ts)) (t.coefficient *ℤ x t.variable) in
          let product = ap (λ (z : ℤ). z *ℤ x t.variable) is ∙ product_of_products f t.coefficient (x t.variable) in
          omega (arith, ints, plus x, so_far.sum x, push, split, product);
      constant = constant ∙ so_far.constant;
      short = omega (arith, so_far.short, longer);
      light = omega (arith, so_far.light, heavier, small);
    }

-- what the next term needs
pub next_room : (old mid : LinearView) (f : ℤ) (ts : List Term) (k : ℕ) → HasAddedScaled old mid f (take k ts) k → k < length ts → length ts ≤ 3 → length old.terms ≤ 6 → length mid.terms < 9
next_room old mid f ts k so_far inside few room = omega (arith, so_far.short)

pub next_fits : (old mid : LinearView) (f c : ℤ) (ts : List Term) (k : ℕ) → HasAddedScaled old mid f (take k ts) k → k < length ts → length ts ≤ 3 → weight old.terms ≤ 6000000 → unsigned_abs c ≤ 256000000 → weight mid.terms + unsigned_abs c < 2 ^ 31
next_fits old mid f c ts k so_far inside few light small = omega (arith, so_far.light)

pub scaled_total : (old last : LinearView) (f : ℤ) (ts : List Term) (k : ℕ) → HasAddedScaled old last f (take k ts) k → length ts ≤ k → (x : Variable → ℤ) → total x last.terms ≡ total x old.terms +ℤ f *ℤ total x ts
scaled_total old last f ts k so_far all x = so_far.sum x ∙ ap (λ (us : List Term). total x old.terms +ℤ f *ℤ total x us) (take_all k ts all)

pub scaled_weight : (old last : LinearView) (f : ℤ) (ts : List Term) (k : ℕ) → HasAddedScaled old last f (take k ts) k → k ≤ 3 → weight old.terms ≤ 6000000 → weight last.terms < 2 ^ 31
scaled_weight old last f ts k so_far few light = omega (arith, so_far.light)

-- all terms, and the constant
pub scaled_value : (old mid new given : LinearView) (f m : ℤ) (x : Variable → ℤ) → mid ≡ record { constant = old.constant +ℤ m; terms = old.terms } → m ≡ f *ℤ given.constant → total x new.terms ≡ total x mid.terms +ℤ f *ℤ total x given.terms → new.constant ≡ mid.constant → value x new ≡ value x old +ℤ f *ℤ value x given
scaled_value old mid new given f m x raised is plus constant =
    let terms = ap (λ (s : LinearView). total x s.terms) raised in
    let constants = ap (λ (s : LinearView). s.constant) raised in
    let split = sum_of_products f given.constant (total x given.terms) in
    omega (arith, ints, plus, terms, constants, constant, is, split)

-- a test that decides the sign of the sum without the multiple decides `DecreasesBeside`
module _ (left last : Rewritten) (from to beside : LinearView) (cost : ℕ) (effect : Effect) (f g : ℤ) (negated : g ≡ neg_ℤ f) (before_that : (before free : Valuation) → value_of_both before free left ≡ value (whole before) from -ℤ pos cost -ℤ value (after effect before free) to) (known : (x : Variable → ℤ) → value x last.known ≡ value x left.known +ℤ g *ℤ value x beside) (unknown : last.unknown ≡ left.unknown) where
  beside_value : (before free : Valuation) → value_of_both before free last ≡ value (whole before) from -ℤ pos cost -ℤ value (after effect before free) to -ℤ f *ℤ value (whole before) beside
  beside_value before free =
      let rest = ap (value (whole free)) unknown in
      let product = ap (λ (z : ℤ). z *ℤ value (whole before) beside) negated ∙ neg_product f (value (whole before) beside) in
      omega (arith, ints, before_that before free, known (whole before), rest, product)

  pub beside_decided : (P : Bool) (source target : Box) → (IsTrue P → (before free : Valuation) → LiesIn source before → LiesIn target free → pos 0 ≤ℤ value_of_both before free last) × (((before free : Valuation) → LiesIn source before → LiesIn target free → pos 0 ≤ℤ value_of_both before free last) → IsTrue P) → (IsTrue P → DecreasesBeside from to cost effect f beside source target) × (DecreasesBeside from to cost effect f beside source target → IsTrue P)
  beside_decided P source target h = (
    λ t before free p q. subst (λ z. pos 0 ≤ℤ z) (beside_value before free) (h.0 t before free p q),
    λ d. h.1 (λ before free p q. subst (λ z. pos 0 ≤ℤ z) (sym (beside_value before free)) (d before free p q)),
  )

-- the sum with the multiple is light
pub beside_light : (left last : Rewritten) → IsWithinRoom 6 left → weight last.known.terms < 2 ^ 31 → unsigned_abs last.known.constant < 2 ^ 60 → last.unknown ≡ left.unknown → IsLight last
beside_light left last room light small same =
    let zero = ap unsigned_abs room.unknown_constant in
    let weights = ap (λ (s : LinearView). weight s.terms) same in
    let constants = ap (λ (s : LinearView). unsigned_abs s.constant) same in
    record {
      known = light;
      unknown = omega (arith, room.unknown_weight, weights);
      constant = small;
      unknown_constant = omega (arith, zero, constants);
    }
