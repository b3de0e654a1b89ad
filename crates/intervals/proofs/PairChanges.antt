-- Each change of a pair keeps or contains the words that it should. The contracts of the functions say so of their
-- results; these lemmas say so of the definitions, for the proofs of the crates above.
use Rattle.std.proofs.Common.{◌≡◌, ℕ, ◌+◌, ◌*◌, ◌/◌, ◌%◌, ◌≤◌, Bool, true, false, cond, eqb, refl, arith, rules, Option, Some, None, IsSomeAnd}
use Rattle.std.specs.Prelude.{option_and_then}
use Rattle.std.proofs.lemmas.Bool.Decides.{nat_tests}
use Rattle.intervals.specs.declared.pair.Pair.{Pair}
use Rattle.intervals.specs.Domain.{Entry}
use Rattle.intervals.specs.Range.{RangeView, Within}
use Rattle.intervals.specs.Pair.{HoldsPair, normal_form, high_bytes, low_bytes, words_of, cut_if_some, written_word, written_bytes, with_word_cut, with_high_cut, with_low_cut}
use Rattle.intervals.proofs.Laws.{intersection_keeps}

-- a value that one step keeps is kept by the next
pub kept_through : {X Y : Type 0} (o : Option X) (P : X → Type 0) (f : X → Option Y) (Q : Y → Type 0) → IsSomeAnd o P → ((x : X) → P x → IsSomeAnd (f x) Q) → IsSomeAnd (option_and_then f o) Q
kept_through None P f Q h k = absurd h
kept_through (Some x) P f Q h k = k x h

low_kept : (p : Pair) (entry : Entry) (v : ℕ) → HoldsPair p entry v → IsSomeAnd (cut_if_some p.low (low_bytes p.word)) (λ r. Within r (v % 256))
low_kept p entry v h =
    let at : (t : Bool) → eqb (p.word.low / 256) (p.word.high / 256) ≡ t → IsSomeAnd (cut_if_some p.low (cond t (Some (let r : RangeView = record { low = p.word.low % 256; high = p.word.high % 256 } in r)) None)) (λ r. Within r (v % 256)) =
    elim [
      | true ↦ λ e. let same : p.word.low / 256 ≡ p.word.high / 256 = search rules in
          intersection_keeps p.low (v % 256) h.low (record { low = p.word.low % 256; high = p.word.high % 256 }) (omega (arith, h.word))
      | false ↦ λ e. h.low
    ] in
    at (eqb (p.word.low / 256) (p.word.high / 256)) refl

pub normal_form_keeps : (p : Pair) (entry : Entry) (v : ℕ) → HoldsPair p entry v → IsSomeAnd (normal_form p) (λ q. HoldsPair q entry v)
normal_form_keeps p entry v h =
    kept_through _ (λ r. Within r (v / 256)) _ (λ q. HoldsPair q entry v)
    (intersection_keeps p.high (v / 256) h.high (high_bytes p.word) (omega (arith, h.word)))
    (λ high in_high. kept_through _ (λ r. Within r (v % 256)) _ (λ q. HoldsPair q entry v) (low_kept p entry v h)
    (λ low in_low. kept_through _ (λ r. Within r v) _ (λ q. HoldsPair q entry v)
    (intersection_keeps p.word v h.word (words_of high low) (omega arith))
    (λ word in_word. record { word = in_word; high = in_high; low = in_low; origin = h.origin })))

pub written_word_holds : (word : RangeView) (entry : Entry) (v : ℕ) → Within word v → HoldsPair (written_word word) entry v
written_word_holds word entry v h =
    record { word = h; high = omega arith; low = grind (arith, nat_tests); origin = tt }

pub written_bytes_holds : (high low : RangeView) (entry : Entry) (x y : ℕ) → y ≤ 255 → Within high x → Within low y → HoldsPair (written_bytes high low) entry (x * 256 + y)
written_bytes_holds high low entry x y top h k =
    record { word = omega arith; high = omega arith; low = omega arith; origin = tt }

module _ (p : Pair) (entry : Entry) (v : ℕ) (h : HoldsPair p entry v) where
  pub word_cut_keeps : (cut : Option RangeView) → IsSomeAnd cut (λ r. Within r v) → IsSomeAnd (with_word_cut p cut) (λ q. HoldsPair q entry v)
  word_cut_keeps cut k = kept_through cut (λ r. Within r v) _ (λ q. HoldsPair q entry v) k
      (λ r inside. normal_form_keeps (record p { word = r }) entry v (record { word = inside; high = h.high; low = h.low; origin = h.origin }))

  pub high_cut_keeps : (cut : Option RangeView) → IsSomeAnd cut (λ r. Within r (v / 256)) → IsSomeAnd (with_high_cut p cut) (λ q. HoldsPair q entry v)
  high_cut_keeps cut k = kept_through cut (λ r. Within r (v / 256)) _ (λ q. HoldsPair q entry v) k
      (λ r inside. normal_form_keeps (record p { high = r }) entry v (record { word = h.word; high = inside; low = h.low; origin = h.origin }))

  pub low_cut_keeps : (cut : Option RangeView) → IsSomeAnd cut (λ r. Within r (v % 256)) → IsSomeAnd (with_low_cut p cut) (λ q. HoldsPair q entry v)
  low_cut_keeps cut k = kept_through cut (λ r. Within r (v % 256)) _ (λ q. HoldsPair q entry v) k
      (λ r inside. normal_form_keeps (record p { low = r }) entry v (record { word = h.word; high = h.high; low = inside; origin = h.origin }))
