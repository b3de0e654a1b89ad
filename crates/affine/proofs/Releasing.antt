-- An unknown variable gets a direction of its own.
use Rattle.std.proofs.Common.{◌≡◌, ◌≢◌, ℕ, suc, ◌+◌, ◌<◌, inl, inr, ℤ, pos, ◌+ℤ◌, ◌-ℤ◌, ◌*ℤ◌, cond, eqb, sym, subst, ap, ◌∙◌, arith}
use Rattle.std.specs.Int.{bit_at}
use Rattle.std.proofs.Math.IntN.{one, *ℤ-one, *ℤ-zero}
use Rattle.std.proofs.lemmas.Int.{ints}
use Rattle.std.proofs.lemmas.Bool.{cases_eq}
use Rattle.std.proofs.lemmas.Bool.Decides.{nat_tests}
use Rattle.loop_bounds.specs.declared.variable.Variable.{Variable}
use Rattle.loop_bounds.specs.Variable.{rank_of}
use Rattle.loop_bounds.proofs.VariableLemmas.{same_from_rank}
use Rattle.affine.specs.declared.space.Space.{Space}
use Rattle.affine.specs.Space.{combination, KnowsAt, coordinate_at, coefficient_at, LiesOn}
use Rattle.affine.proofs.Combinations.{combination-same, combination-zero}

-- the factors with one more
extended : ℕ → ℤ → (ℕ → ℤ) → ℕ → ℤ
extended n a f i = cond (eqb i n) a (f i)

extended_below : (n : ℕ) (a : ℤ) (f : ℕ → ℤ) (i : ℕ) → i < n → extended n a f i ≡ f i
unfolding extended
extended_below n a f i h = grind (arith, nat_tests)

extended_last : (n : ℕ) (a : ℤ) (f : ℕ → ℤ) → extended n a f n ≡ a
unfolding extended
extended_last n a f = grind (arith, nat_tests)

module _ (old new : Space) (variable : Variable) (rank : ℕ) (is : rank ≡ rank_of variable) (count : new.count ≡ old.count + 1) (coordinate : coordinate_at new rank ≡ pos 0) (unit : coefficient_at new rank old.count ≡ pos 1) (others : (i : ℕ) → i < old.count → coefficient_at new rank i ≡ pos 0) (same : (r : ℕ) → r < 48 → r ≢ rank → bit_at new.known r ≡ bit_at old.known r) (point : (r : ℕ) → r < 48 → r ≢ rank → coordinate_at new r ≡ coordinate_at old r) (column : (r : ℕ) → r < 48 → r ≢ rank → (i : ℕ) → i < old.count → coefficient_at new r i ≡ coefficient_at old r i) (empty : (r : ℕ) → r < 48 → r ≢ rank → coefficient_at new r old.count ≡ pos 0) (x : Variable → ℤ) (on : LiesOn old x) where
  factors : ℕ → ℤ
  factors = extended old.count (on.scale *ℤ x variable) on.factors

  total : (r : ℕ) → combination new.count factors (coefficient_at new r) ≡ combination old.count factors (coefficient_at new r) +ℤ factors old.count *ℤ coefficient_at new r old.count
  total r =
      let next : new.count ≡ suc old.count = omega arith in
      ap (λ n. combination n factors (coefficient_at new r)) next

  of_other : (v : Variable) → KnowsAt new (rank_of v) → rank_of v ≢ rank → on.scale *ℤ (x v -ℤ coordinate_at new (rank_of v)) ≡ combination new.count factors (coefficient_at new (rank_of v))
  unfolding factors
  of_other v k n =
      let r = rank_of v in
      let before : KnowsAt old r = (k.0, sym (same r k.0 n) ∙ k.1) in
      let sums = on.sums v before in
      let distance = ap (λ z. on.scale *ℤ (x v -ℤ z)) (point r k.0 n) in
      let first = combination-same old.count factors on.factors (coefficient_at new r) (coefficient_at old r) (λ i h. extended_below old.count (on.scale *ℤ x variable) on.factors i h) (λ i h. column r k.0 n i h) in
      let last = ap (λ z. factors old.count *ℤ z) (empty r k.0 n) ∙ *ℤ-zero (factors old.count) in
      omega (arith, ints, total r, first, last, sums, distance)

  of_variable : on.scale *ℤ (x variable -ℤ coordinate_at new rank) ≡ combination new.count factors (coefficient_at new rank)
  unfolding factors one
  of_variable =
      let zero : x variable -ℤ coordinate_at new rank ≡ x variable = omega (arith, ints, coordinate) in
      let distance = ap (λ z. on.scale *ℤ z) zero in
      let first = combination-zero old.count factors (coefficient_at new rank) others in
      let once : factors old.count *ℤ pos 1 ≡ factors old.count = *ℤ-one (factors old.count) in
      let last = ap (λ z. factors old.count *ℤ z) unit ∙ once ∙ extended_last old.count (on.scale *ℤ x variable) on.factors in
      omega (arith, ints, total rank, first, last, distance)

  pub released : LiesOn new x
  released = record {
    scale = on.scale;
    not_zero = on.not_zero;
    factors = factors;
    sums = λ v k. elim (cases_eq (rank_of v) rank) [
      | inl e ↦
          let v_is = same_from_rank variable v (sym is ∙ sym e) in
          subst (λ (w : Variable). on.scale *ℤ (x w -ℤ coordinate_at new (rank_of w)) ≡ combination new.count factors (coefficient_at new (rank_of w))) v_is
          (subst (λ (r : ℕ). on.scale *ℤ (x variable -ℤ coordinate_at new r) ≡ combination new.count factors (coefficient_at new r)) is of_variable)
      | inr n ↦ of_other v k n
    ];
  }
