-- One linear subtracted from another.
use Rattle.std.proofs.Common.{◌≡◌, ◌≢◌, ℕ, ◌≤◌, Bool, true, false, not, List, [], get_or, ℤ, pos, ◌+ℤ◌, ◌-ℤ◌, ◌≤ℤ◌, sym, subst, ap, ◌∙◌, arith, All, IsTrue, unsigned_abs, refl}
use Rattle.std.proofs.lemmas.Int.{ints}
use Rattle.loop_bounds.specs.declared.effect.Effect.{Effect}
use Rattle.loop_bounds.specs.declared.effect.Change.{Change}
use Rattle.loop_bounds.specs.declared.effect.Change.TheVariants.{Old, Raised, Lowered, Constant, Unknown}
use Rattle.loop_bounds.specs.declared.linear.Term.{Term}
use Rattle.loop_bounds.specs.declared.rewritten.Rewritten.{Rewritten}
use Rattle.loop_bounds.specs.declared.variable.Variable.{Variable}
use Rattle.loop_bounds.specs.Linear.{LinearView, IsLinear, total, value}
use Rattle.loop_bounds.specs.Effect.{Valuation, whole, changed, constant_before, after, after_from, change_of}
use Rattle.loop_bounds.specs.Ranges.{Box, full_box, LiesIn}
use Rattle.loop_bounds.specs.Bounds.{Decreases}
use Rattle.loop_bounds.specs.Signed.{signed}
use Rattle.loop_bounds.specs.Rewritten.{value_of_both, WasAdded}
use Rattle.loop_bounds.proofs.Boxes.{total_agree}

abbrev pub IsUnchanged : Effect → Type 0
IsUnchanged u = (v : Variable) → change_of u v ≡ Old v

-- over full ranges no variable is a constant
none_constant : (c : Change) → constant_before full_box c ≡ c
none_constant (Old v) = refl
none_constant (Raised v) = refl
none_constant (Lowered v) = refl
none_constant (Constant k) = refl
none_constant Unknown = refl

after_full : (e : Effect) (before free : Valuation) (v : Variable) → after_from full_box e before free v ≡ after e before free v
after_full e before free v = ap (λ (c : Change). changed c before (pos (free v))) (none_constant (change_of e v))

total_full : (e : Effect) (before free : Valuation) (ts : List Term) → total (after_from full_box e before free) ts ≡ total (after e before free) ts
total_full e before free ts =
    total_agree (after_from full_box e before free) (after e before free) ts (λ k d p. after_full e before free (get_or ts k d).variable)

after_unchanged : (u : Effect) → IsUnchanged u → (before free : Valuation) (v : Variable) → after u before free v ≡ whole before v
after_unchanged u h before free v = ap (λ (c : Change). changed c before (pos (free v))) (h v)

total_unchanged : (u : Effect) → IsUnchanged u → (before free : Valuation) (ts : List Term) → total (after_from full_box u before free) ts ≡ total (whole before) ts
total_unchanged u h before free ts =
    total_full u before free ts
    ∙ total_agree (after u before free) (whole before) ts (λ k d p. after_unchanged u h before free (get_or ts k d).variable)

pub none_unknown : (u : Effect) → IsUnchanged u → (ts : List Term) → All (λ t. change_of u t.variable ≢ Unknown) ts
none_unknown u h ts k d p e = let same = h (get_or ts k d).variable in cc

pub small_terms : (s : LinearView) → IsLinear s → All (λ t. unsigned_abs t.coefficient ≤ 1000000) s.terms
small_terms s h k d p = let both = h.coefficients k d p in both.1

start_value : (start : Rewritten) (c : ℤ) → start.known ≡ record { constant = c; terms = [] } → start.unknown ≡ record { constant = pos 0; terms = [] } → (before free : Valuation) → value_of_both before free start ≡ c
start_value start c k u before free =
    let first = ap (value (whole before)) k in
    let second = ap (value (whole free)) u in
    omega (arith, ints, first, second)

module _ (u effect : Effect) (same : IsUnchanged u) (start mid last : Rewritten) (c : ℤ) (known : start.known ≡ record { constant = c; terms = [] }) (unknown : start.unknown ≡ record { constant = pos 0; terms = [] }) where
  pub decrease_value : (from to : LinearView) (cost : ℕ) → c ≡ from.constant -ℤ pos cost -ℤ to.constant → WasAdded start mid full_box u false from → WasAdded mid last full_box effect true to → (before free : Valuation) → value_of_both before free last ≡ value (whole before) from -ℤ pos cost -ℤ value (after effect before free) to
  decrease_value from to cost is first second before free =
      let none = start_value start c known unknown before free in
      let one = first before free in
      let two = second before free in
      let plain = total_unchanged u same before free from.terms in
      let rewritten = total_full effect before free to.terms in
      omega (arith, ints, none, one, two, plain, rewritten, is)

  pub difference_value : (source : Box) (fact given : LinearView) (n : Bool) → c ≡ fact.constant +ℤ signed (not n) given.constant → WasAdded start mid source effect false fact → WasAdded mid last full_box u (not n) given → last.unknown ≡ mid.unknown → mid.unknown ≡ start.unknown → (before free : Valuation) → value (whole before) last.known ≡ value (after_from source effect before free) fact -ℤ signed n (value (whole before) given)
  difference_value source fact given true is first second kept kept' before free =
      let none = start_value start c known unknown before free in
      let one = first before free in
      let two = second before free in
      let plain = total_unchanged u same before free given.terms in
      let rest = ap (value (whole free)) (kept ∙ kept' ∙ unknown) in
      omega (arith, ints, none, one, two, plain, is, rest)
  difference_value source fact given false is first second kept kept' before free =
      let none = start_value start c known unknown before free in
      let one = first before free in
      let two = second before free in
      let plain = total_unchanged u same before free given.terms in
      let rest = ap (value (whole free)) (kept ∙ kept' ∙ unknown) in
      omega (arith, ints, none, one, two, plain, is, rest)

pub fact_value : (source : Box) (effect : Effect) (start last : Rewritten) (fact : LinearView) → start.known ≡ record { constant = fact.constant; terms = [] } → start.unknown ≡ record { constant = pos 0; terms = [] } → WasAdded start last source effect false fact → last.unknown ≡ start.unknown → (before free : Valuation) → value (whole before) last.known ≡ value (after_from source effect before free) fact
fact_value source effect start last fact known unknown first kept before free =
    let none = start_value start fact.constant known unknown before free in
    let one = first before free in
    let rest = ap (value (whole free)) (kept ∙ unknown) in
    omega (arith, ints, none, one, rest)

-- a test that decides the sign of the rewritten sum decides `Decreases`
pub decided_by_value : (P : Bool) (source target : Box) (from to : LinearView) (cost : ℕ) (effect : Effect) (last : Rewritten) → ((before free : Valuation) → value_of_both before free last ≡ value (whole before) from -ℤ pos cost -ℤ value (after effect before free) to) → (IsTrue P → (before free : Valuation) → LiesIn source before → LiesIn target free → pos 0 ≤ℤ value_of_both before free last) × (((before free : Valuation) → LiesIn source before → LiesIn target free → pos 0 ≤ℤ value_of_both before free last) → IsTrue P) → (IsTrue P → Decreases from to cost effect source target) × (Decreases from to cost effect source target → IsTrue P)
decided_by_value P source target from to cost effect last e h = (
  λ t before free p q. subst (λ z. pos 0 ≤ℤ z) (e before free) (h.0 t before free p q),
  λ d. h.1 (λ before free p q. subst (λ z. pos 0 ≤ℤ z) (sym (e before free)) (d before free p q)),
)

pub of_constant : {c d : ℤ} → c ≡ d → (let s : LinearView = record { constant = c; terms = [] } in s) ≡ record { constant = d; terms = [] }
of_constant e = ap (λ (z : ℤ). let s : LinearView = record { constant = z; terms = [] } in s) e

pub same_from_difference : (d a b : ℤ) → d ≡ a -ℤ b → d ≡ pos 0 → a ≡ b
same_from_difference d a b e z = omega (arith, ints)

pub difference_from_same : (a b : ℤ) → a ≡ b → a -ℤ b ≡ pos 0
difference_from_same a b e = omega (arith, ints)
