-- The variables are taken one after another.
use Rattle.std.proofs.Common.{◌≡◌, ◌≢◌, ℕ, ◌+◌, ◌*◌, ◌<◌, ◌≤◌, min, ◌⊎◌, inl, inr, Option, Some, None, ℤ, refl, sym, subst, ap, ◌∙◌, arith}
use Rattle.std.proofs.lemmas.Int.{ints}
use Rattle.std.proofs.lemmas.Bool.{cases_eq, cases_lt}
use Rattle.std.proofs.lemmas.Bool.Decides.{nat_tests}
use Rattle.loop_bounds.specs.declared.effect.Change.{Change}
use Rattle.loop_bounds.specs.declared.effect.Change.TheVariants.{Old, Raised, Lowered, Constant, Unknown}
use Rattle.loop_bounds.specs.declared.effect.Effect.{Effect}
use Rattle.loop_bounds.specs.declared.effect.SlotChange.{SlotChange}
use Rattle.loop_bounds.specs.declared.variable.Variable.{Variable}
use Rattle.loop_bounds.specs.declared.variable.Variable.TheVariants.{A, B, C, D, E, H, L, Bc, De, Hl, Ix, Iy, Slot}
use Rattle.loop_bounds.specs.declared.variable.Part.{Part}
use Rattle.loop_bounds.specs.declared.variable.Part.TheVariants.{Word, High, Low}
use Rattle.loop_bounds.specs.Variable.{rank_of, part_rank}
use Rattle.loop_bounds.specs.Effect.{change_of, slot_change}
use Rattle.affine.specs.declared.space.Space.{Space}
use Rattle.affine.specs.Space.{KnowsAt, IsSameAt}
use Rattle.affine.specs.Step.{IsMoved, IsTakenAt}
use Rattle.tracked_variables.specs.Written.{first_written}

-- the variables with a rank below this one were taken
pub record RegistersTaken (old next : Space) (effect : Effect) (rank : ℕ) : Type 0 where
  pub count : next.count ≡ old.count
  pub done : (v : Variable) → rank_of v < rank → IsTakenAt old next (rank_of v) (change_of effect v)
  pub rest : (r : ℕ) → rank ≤ r → r < 48 → IsSameAt old next r

-- the registers and the variables from the first rank to the last were taken
pub record SlotTaken (old next : Space) (effect : Effect) (first last : ℕ) : Type 0 where
  pub count : next.count ≡ old.count
  pub registers : (v : Variable) → rank_of v < 12 → IsTakenAt old next (rank_of v) (change_of effect v)
  pub slot : (v : Variable) → first ≤ rank_of v → rank_of v < last → IsTakenAt old next (rank_of v) (change_of effect v)
  pub before : (r : ℕ) → 12 ≤ r → r < first → r < 48 → IsSameAt old next r
  pub behind : (r : ℕ) → 12 ≤ r → last ≤ r → r < 48 → IsSameAt old next r

pub same_self : (s : Space) (r : ℕ) → IsSameAt s s r
same_self s r = record { known = refl; coordinate = refl; column = λ i. refl }

pub same_then : (a b c : Space) (r : ℕ) → IsSameAt a b r → IsSameAt b c r → IsSameAt a c r
same_then a b c r p q = record {
  known = q.known ∙ p.known;
  coordinate = q.coordinate ∙ p.coordinate;
  column = λ i. q.column i ∙ p.column i;
}

pub known_before : (a b : Space) (r : ℕ) → IsSameAt a b r → KnowsAt b r → KnowsAt a r
known_before a b r p k = (k.0, sym p.known ∙ k.1)

moved_same : (old next last : Space) (r source : ℕ) (by : ℤ) → IsSameAt next last r → IsMoved old next r source by → IsMoved old last r source by
moved_same old next last r source by p m = record {
  known = m.known;
  coordinate = p.coordinate ∙ m.coordinate;
  column = λ i. p.column i ∙ m.column i;
}

taken_same : (old next last : Space) (r : ℕ) (c : Change) → IsSameAt next last r → IsTakenAt old next r c → IsTakenAt old last r c
taken_same old next last r (Old w) p t = λ k. moved_same old next last r (rank_of w) _ p (t (known_before next last r p k))
taken_same old next last r (Raised w) p t = λ k. moved_same old next last r (rank_of w) _ p (t (known_before next last r p k))
taken_same old next last r (Lowered w) p t = λ k. moved_same old next last r (rank_of w) _ p (t (known_before next last r p k))
taken_same old next last r (Constant n) p t = λ k.
    let h = t (known_before next last r p k) in
    record { coordinate = p.coordinate ∙ h.coordinate; column = λ i. p.column i ∙ h.column i }
taken_same old next last r Unknown p t = λ k. t (known_before next last r p k)

not_tracked : (old next : Space) (r : ℕ) (c : Change) → 48 ≤ r → IsTakenAt old next r c
not_tracked old next r (Old w) h = λ k. absurd (omega (arith, h, k.0))
not_tracked old next r (Raised w) h = λ k. absurd (omega (arith, h, k.0))
not_tracked old next r (Lowered w) h = λ k. absurd (omega (arith, h, k.0))
not_tracked old next r (Constant n) h = λ k. absurd (omega (arith, h, k.0))
not_tracked old next r Unknown h = λ k. absurd (omega (arith, h, k.0))

module _ (old next last : Space) (effect : Effect) (rank : ℕ) (c : Change) (low : rank < 48) (is : (v : Variable) → rank_of v ≡ rank → c ≡ change_of effect v) (taken : IsTakenAt old last rank c) (others : (r : ℕ) → r < 48 → r ≢ rank → IsSameAt next last r) (count : last.count ≡ next.count) where
  here : (v : Variable) → rank_of v ≡ rank → IsTakenAt old last (rank_of v) (change_of effect v)
  here v e = subst (λ (r : ℕ). IsTakenAt old last r (change_of effect v)) (sym e) (subst (λ (d : Change). IsTakenAt old last rank d) (is v e) taken)

  there : (v : Variable) → rank_of v < 48 → rank_of v ≢ rank → IsTakenAt old next (rank_of v) (change_of effect v) → IsTakenAt old last (rank_of v) (change_of effect v)
  there v h n t = taken_same old next last (rank_of v) (change_of effect v) (others (rank_of v) h n) t

  pub registers_next : RegistersTaken old next effect rank → RegistersTaken old last effect (rank + 1)
  registers_next t = record {
    count = count ∙ t.count;
    done = λ v h. elim (cases_eq (rank_of v) rank) [ inl e ↦ here v e | inr n ↦ there v (omega arith) n (t.done v (omega arith)) ];
    rest = λ r h k. same_then old next last r (t.rest r (omega arith) k) (others r k (λ e. absurd (omega arith)));
  }

  pub slot_next : (first : ℕ) → 12 ≤ first → first ≤ rank → SlotTaken old next effect first rank → SlotTaken old last effect first (rank + 1)
  slot_next first up from t = record {
    count = count ∙ t.count;
    registers = λ v h. there v (omega arith) (λ e. absurd (omega arith)) (t.registers v h);
    slot = λ v h k. elim (cases_eq (rank_of v) rank) [ inl e ↦ here v e | inr n ↦ there v (omega arith) n (t.slot v h (omega arith)) ];
    before = λ r h k m. same_then old next last r (t.before r h k m) (others r m (λ e. absurd (omega arith)));
    behind = λ r h k m. same_then old next last r (t.behind r h (omega arith) m) (others r m (λ e. absurd (omega arith)));
  }

pub slot_start : (old next : Space) (effect : Effect) (first : ℕ) → 12 ≤ first → RegistersTaken old next effect 12 → SlotTaken old next effect first first
slot_start old next effect first up t = record {
  count = t.count;
  registers = t.done;
  slot = λ v h k. absurd (omega arith);
  before = λ r h k m. t.rest r h m;
  behind = λ r h k m. t.rest r h m;
}

left_old : (old next : Space) (v : Variable) → IsSameAt old next (rank_of v) → IsTakenAt old next (rank_of v) (Old v)
left_old old next v p = λ k. record {
  known = known_before old next (rank_of v) p k;
  coordinate = omega (arith, ints, p.coordinate);
  column = p.column;
}

part_low : (p : Part) → part_rank p < 3
part_low Word = omega arith
part_low High = omega arith
part_low Low = omega arith

other_slot : (s : SlotChange) (n : ℕ) (p : Part) → s.number ≢ n → slot_change (Some s) n p ≡ Old (Slot n p)
other_slot s n p other = grind (arith, nat_tests)

module _ (old next : Space) (effect : Effect) (first : ℕ) (up : 12 ≤ first) (t : SlotTaken old next effect first (min (first + 3) 48)) where
  untouched : (v : Variable) → change_of effect v ≡ Old v → 12 ≤ rank_of v → (rank_of v < first) ⊎ (min (first + 3) 48 ≤ rank_of v) → IsTakenAt old next (rank_of v) (change_of effect v)
  untouched v e h side =
      subst (λ (d : Change). IsTakenAt old next (rank_of v) d) (sym e)
      (elim (cases_lt (rank_of v) 48) [
        | inl low ↦ left_old old next v (elim side [ inl below ↦ t.before (rank_of v) h below low | inr above ↦ t.behind (rank_of v) h above low ])
        | inr high ↦ not_tracked old next (rank_of v) (Old v) high
      ])

  not_written : (n : ℕ) (p : Part) → change_of effect (Slot n p) ≡ Old (Slot n p) → (first ≤ rank_of (Slot n p) → min (first + 3) 48 ≤ rank_of (Slot n p)) → IsTakenAt old next (rank_of (Slot n p)) (change_of effect (Slot n p))
  not_written n p e beyond =
      untouched (Slot n p) e (omega arith) (elim (cases_lt (rank_of (Slot n p)) first) [ inl h ↦ inl h | inr h ↦ inr (beyond h) ])

  written : (s : SlotChange) (n : ℕ) (p : Part) → first ≡ min (12 + 3 * s.number) 48 → s.number ≡ n → IsTakenAt old next (rank_of (Slot n p)) (change_of effect (Slot n p))
  written s n p f e =
      let low = part_low p in
      elim (cases_lt (rank_of (Slot n p)) 48) [
        | inl h ↦ t.slot (Slot n p) (omega arith) (omega arith)
        | inr h ↦ not_tracked old next (rank_of (Slot n p)) (change_of effect (Slot n p)) h
      ]

  taken_slot : (slot : Option SlotChange) → effect.slot ≡ slot → first ≡ first_written slot → (n : ℕ) (p : Part) → IsTakenAt old next (rank_of (Slot n p)) (change_of effect (Slot n p))
  taken_slot None e f n p = not_written n p (ap (λ (o : Option SlotChange). slot_change o n p) e) (λ h. omega arith)
  taken_slot (Some s) e f n p =
      let low = part_low p in
      elim (cases_eq s.number n) [
        | inl same ↦ written s n p f same
        | inr other ↦ not_written n p (ap (λ (o : Option SlotChange). slot_change o n p) e ∙ other_slot s n p other) (λ h. omega arith)
      ]

  pub all_taken : first ≡ first_written effect.slot → (v : Variable) → IsTakenAt old next (rank_of v) (change_of effect v)
  all_taken f A = t.registers A (omega arith)
  all_taken f B = t.registers B (omega arith)
  all_taken f C = t.registers C (omega arith)
  all_taken f D = t.registers D (omega arith)
  all_taken f E = t.registers E (omega arith)
  all_taken f H = t.registers H (omega arith)
  all_taken f L = t.registers L (omega arith)
  all_taken f Bc = t.registers Bc (omega arith)
  all_taken f De = t.registers De (omega arith)
  all_taken f Hl = t.registers Hl (omega arith)
  all_taken f Ix = t.registers Ix (omega arith)
  all_taken f Iy = t.registers Iy (omega arith)
  all_taken f (Slot n p) = taken_slot effect.slot refl f n p
