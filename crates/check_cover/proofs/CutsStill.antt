-- A pair that covers another still covers it when both are cut.
use Rattle.std.proofs.Common.{◌≡◌, ℕ, ◌+◌, ◌*◌, ◌/◌, ◌%◌, ◌<◌, ◌≤◌, Bool, true, false, cond, eqb, min, max, inl, inr, refl, sym, subst, arith, rules, Option, Some, None, IfSome}
use Rattle.std.specs.Prelude.{nat_le, option_and_then}
use Rattle.std.proofs.lemmas.Bool.{cases_lt, leb-true, le-leb, lt-leb, eqb-true, eqb-false}
use Rattle.intervals.specs.declared.pair.Pair.{Pair}
use Rattle.intervals.specs.Pair.{CoversPair, cut_if_some, high_bytes, low_bytes, normal_form, with_word_cut, with_high_cut, with_low_cut, words_of}
use Rattle.intervals.specs.Range.{Covers, RangeView, between, intersection}

-- if anything is left of the second, then of the first too, and the two are related
abbrev pub Still : {X : Type 0} → (X → X → Type 0) → Option X → Option X → Type 0
Still R a None = Unit {0}
Still R None (Some y) = ⊥
Still R (Some x) (Some y) = R x y

pub still_then : {X Y : Type 0} (R : X → X → Type 0) (S : Y → Y → Type 0) (f g : X → Option Y) (a b : Option X) → Still R a b → ((x y : X) → R x y → Still S (f x) (g y)) → Still S (option_and_then f a) (option_and_then g b)
still_then R S f g a None h k = tt
still_then R S f g None (Some y) h k = absurd h
still_then R S f g (Some x) (Some y) h k = k x y h

-- ---- ranges

if_still : (b c : Bool) (p q : RangeView) → (c ≡ true → b ≡ true) → Covers p q → Still Covers (cond b (Some p) None) (cond c (Some q) None)
if_still true true p q h k = k
if_still true false p q h k = tt
if_still false false p q h k = tt
if_still false true p q h k = let e = h refl in absurd (search rules)

pub cut_still : (a b c d : RangeView) → Covers a c → Covers b d → Still Covers (intersection a b) (intersection c d)
cut_still a b c d h k =
    if_still (nat_le (max a.low b.low) (min a.high b.high)) (nat_le (max c.low d.low) (min c.high d.high)) _ _
    (λ e. let below = leb-true (max c.low d.low) (min c.high d.high) e in le-leb _ _ (omega arith)) (omega arith, omega arith)

cut_first_still : (a c d : RangeView) → Covers a c → Still Covers (Some a) (intersection c d)
cut_first_still a c d h =
    if_still true (nat_le (max c.low d.low) (min c.high d.high)) a _ (λ e. refl) (omega arith, omega arith)

-- ---- pairs

ends : RangeView → RangeView
ends word = record { low = word.low % 256; high = word.high % 256 }

low_cases : (a b word part : RangeView) (t u : Bool) → Covers a b → Covers word part → part.low ≤ part.high → eqb (word.low / 256) (word.high / 256) ≡ t → eqb (part.low / 256) (part.high / 256) ≡ u →
    Still Covers (cut_if_some a (cond t (Some (let r : RangeView = record { low = word.low % 256; high = word.high % 256 } in r)) None)) (cut_if_some b (cond u (Some (let r : RangeView = record { low = part.low % 256; high = part.high % 256 } in r)) None))
low_cases a b word part true true h k in_order e f =
    let one = eqb-true (word.low / 256) (word.high / 256) e in
    cut_still a (record { low = word.low % 256; high = word.high % 256 }) b (record { low = part.low % 256; high = part.high % 256 }) h (omega arith, omega arith)
low_cases a b word part true false h k in_order e f =
    let one = eqb-true (word.low / 256) (word.high / 256) e in
    absurd (eqb-false (part.low / 256) (part.high / 256) f (omega arith))
low_cases a b word part false true h k in_order e f = cut_first_still a b (record { low = part.low % 256; high = part.high % 256 }) h
low_cases a b word part false false h k in_order e f = h

low_still : (p q : Pair) → CoversPair p q → q.word.low ≤ q.word.high → Still Covers (cut_if_some p.low (low_bytes p.word)) (cut_if_some q.low (low_bytes q.word))
low_still p q h in_order =
    low_cases p.low q.low p.word q.word (eqb (p.word.low / 256) (p.word.high / 256)) (eqb (q.word.low / 256) (q.word.high / 256)) h.low h.word in_order refl refl

-- nothing is left of a word range without values
cut_none : (a b : RangeView) → a.high < a.low → intersection a b ≡ None
cut_none a b h = let e = lt-leb (max a.low b.low) (min a.high b.high) (omega arith) in rw e

none_then : {X Y : Type 0} (f : X → Option Y) (o : Option X) → ((x : X) → f x ≡ None) → option_and_then f o ≡ None
none_then f None h = refl
none_then f (Some x) h = h x

normal_none : (p : Pair) → p.word.high < p.word.low → normal_form p ≡ None
normal_none p h =
    none_then _ (intersection p.high (high_bytes p.word))
    (λ high. none_then _ (cut_if_some p.low (low_bytes p.word)) (λ low. rw (cut_none p.word (words_of high low) h)))

normal_in_order : (p q : Pair) → CoversPair p q → q.word.low ≤ q.word.high → Still CoversPair (normal_form p) (normal_form q)
normal_in_order p q h in_order =
    still_then Covers CoversPair _ _ _ _ (cut_still p.high (high_bytes p.word) q.high (high_bytes q.word) h.high (omega (arith, h.word), omega (arith, h.word)))
    (λ high top up. still_then Covers CoversPair _ _ _ _ (low_still p q h in_order)
    (λ low bottom down. still_then Covers CoversPair _ _ _ _ (cut_still p.word (words_of high low) q.word (words_of top bottom) h.word (omega arith, omega arith))
    (λ word part within. record { word = within; high = up; low = down; origin = h.origin })))

pub normal_still : (p q : Pair) → CoversPair p q → Still CoversPair (normal_form p) (normal_form q)
normal_still p q h =
    elim (cases_lt q.word.high q.word.low) [
      | inl none ↦ rw (normal_none q none) tt
      | inr in_order ↦ normal_in_order p q h in_order
    ]

module _ (p q : Pair) (a b : RangeView) (h : CoversPair p q) (k : Covers a b) where
  pub word_cut_still : Still CoversPair (with_word_cut p (intersection p.word a)) (with_word_cut q (intersection q.word b))
  word_cut_still =
      still_then Covers CoversPair _ _ _ _ (cut_still p.word a q.word b h.word k)
      (λ r s within. normal_still (record p { word = r }) (record q { word = s }) (record { word = within; high = h.high; low = h.low; origin = h.origin }))

  pub high_cut_still : Still CoversPair (with_high_cut p (intersection p.high a)) (with_high_cut q (intersection q.high b))
  high_cut_still =
      still_then Covers CoversPair _ _ _ _ (cut_still p.high a q.high b h.high k)
      (λ r s within. normal_still (record p { high = r }) (record q { high = s }) (record { word = h.word; high = within; low = h.low; origin = h.origin }))

  pub low_cut_still : Still CoversPair (with_low_cut p (intersection p.low a)) (with_low_cut q (intersection q.low b))
  low_cut_still =
      still_then Covers CoversPair _ _ _ _ (cut_still p.low a q.low b h.low k)
      (λ r s within. normal_still (record p { low = r }) (record q { low = s }) (record { word = h.word; high = h.high; low = within; origin = h.origin }))
