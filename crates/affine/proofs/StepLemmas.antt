-- The values after a step lie on the space after it.
use Rattle.std.proofs.Common.{◌≡◌, ℤ, pos, negsuc, ◌+ℤ◌, ◌-ℤ◌, ◌*ℤ◌, refl, sym, ap, ◌∙◌, arith}
use Rattle.std.proofs.Math.IntN.{*ℤ-zero}
use Rattle.std.proofs.lemmas.Int.{ints}
use Rattle.loop_bounds.specs.declared.effect.Change.{Change}
use Rattle.loop_bounds.specs.declared.effect.Change.TheVariants.{Old, Raised, Lowered, Constant, Unknown}
use Rattle.loop_bounds.specs.declared.effect.Effect.{Effect}
use Rattle.loop_bounds.specs.declared.variable.Variable.{Variable}
use Rattle.loop_bounds.specs.Variable.{rank_of}
use Rattle.loop_bounds.specs.Effect.{Valuation, whole, changed, change_of}
use Rattle.affine.specs.declared.space.Space.{Space}
use Rattle.affine.specs.Space.{combination, KnowsAt, Forgets, coordinate_at, coefficient_at, LiesOn}
use Rattle.affine.specs.Step.{CanLeave, IsMoved, IsTakenAt}
use Rattle.affine.proofs.Combinations.{combination-same, combination-zero}
use Rattle.affine.proofs.Taking.{known_before}

-- where some variables were forgotten, all values still lie on the space
pub forgotten : (old new : Space) → Forgets old new → (x : Variable → ℤ) → LiesOn old x → LiesOn new x
forgotten old new f x on = record {
  scale = on.scale;
  not_zero = on.not_zero;
  factors = on.factors;
  sums = λ v k.
      let r = rank_of v in
      let same = f.rest r k in
      let sums = on.sums v (known_before old new r same k) in
      let distance = ap (λ z. on.scale *ℤ (x v -ℤ z)) same.coordinate in
      let total = combination-same new.count on.factors on.factors (coefficient_at new r) (coefficient_at old r) (λ i h. refl) (λ i h. same.column i) in
      let few = ap (λ n. combination n on.factors (coefficient_at old r)) f.count in
      distance ∙ sums ∙ sym few ∙ sym total;
}

module _ (old new : Space) (effect : Effect) (count : new.count ≡ old.count) (taken : (v : Variable) → IsTakenAt old new (rank_of v) (change_of effect v)) (before : Valuation) (x : Variable → ℤ) (on : LiesOn old (whole before)) (leads : CanLeave effect before x) where
  moved : (v w : Variable) (by : ℤ) → IsMoved old new (rank_of v) (rank_of w) by → x v ≡ pos (before w) +ℤ by → on.scale *ℤ (x v -ℤ coordinate_at new (rank_of v)) ≡ combination new.count on.factors (coefficient_at new (rank_of v))
  moved v w by m e =
      let distance : x v -ℤ coordinate_at new (rank_of v) ≡ pos (before w) -ℤ coordinate_at old (rank_of w) = omega (arith, ints, e, m.coordinate) in
      let total = combination-same new.count on.factors on.factors (coefficient_at new (rank_of v)) (coefficient_at old (rank_of w)) (λ i h. refl) (λ i h. m.column i) in
      let few = ap (λ n. combination n on.factors (coefficient_at old (rank_of w))) count in
      ap (λ z. on.scale *ℤ z) distance ∙ on.sums w m.known ∙ sym few ∙ sym total

  by_change : (v : Variable) (c : Change) → x v ≡ changed c before (x v) → KnowsAt new (rank_of v) → IsTakenAt old new (rank_of v) c → on.scale *ℤ (x v -ℤ coordinate_at new (rank_of v)) ≡ combination new.count on.factors (coefficient_at new (rank_of v))
  by_change v (Old w) e k t = moved v w (pos 0) (t k) (omega (arith, ints, e))
  by_change v (Raised w) e k t = moved v w (pos 1) (t k) e
  by_change v (Lowered w) e k t = moved v w (negsuc 0) (t k) e
  by_change v (Constant n) e k t =
      let h = t k in
      let distance : x v -ℤ coordinate_at new (rank_of v) ≡ pos 0 = omega (arith, ints, e, h.coordinate) in
      ap (λ z. on.scale *ℤ z) distance ∙ *ℤ-zero on.scale ∙ sym (combination-zero new.count on.factors (coefficient_at new (rank_of v)) (λ i _. h.column i))
  by_change v Unknown e k t = absurd (t k)

  pub led : LiesOn new x
  led = record {
    scale = on.scale;
    not_zero = on.not_zero;
    factors = on.factors;
    sums = λ v k. by_change v (change_of effect v) (leads v) k (taken v);
  }
