-- The facts of a row while they are read.
use Rattle.std.proofs.Common.{◌≡◌, ◌<◌, ◌≤◌, ◌^◌, ◌+◌, ◌-◌, ℕ, suc, set, take, replicate, append_assoc, List, [], ◌∷◌, ◌++◌, length, map, codes, Option, Some, None, refl, sym, ap, subst, ◌∙◌, arith, length-append}
use Rattle.std.proofs.Math.Seq.{set-append_seam}
use Rattle.std.proofs.lemmas.List.{take_more_set}
use Rattle.std.specs.List.{AllByRecursion}
use Rattle.loop_bounds.specs.Linear.{LinearView}
use Rattle.texts.specs.Fields.{parts_of}
use Rattle.cert_fields.specs.Facts.{AreFacts, AreFewFacts, AreStored, facts_text, padded_facts, padding_fact}
use Rattle.cert_fields.specs.FactsLaws.{length-facts-front, length-stored-facts}
use Rattle.cert_fields.specs.Counted.{ReadsCounted}
use Rattle.cert_fields.specs.Kept.{IsCountedAs, KeepsFew}
use Rattle.cert_fields.specs.declared.counted.Counted.{Counted}
use Rattle.cert_fields.specs.declared.counted.Counted.TheVariants.{Fits, TooMany}
use Rattle.cert_fields.specs.Linear.{IsShort, IsSum, linear_text}
use Rattle.cert_fields.proofs.CutLemmas.{Lacks}
use Rattle.cert_fields.proofs.LinearPartLemmas.{part_linear, part_lacks}
use Rattle.cert_fields.proofs.PartsLemmas.{list_stops, list_ends, list_more, all_more}

-- some facts were read, and some parts of the text are left
pub record AreReading (slots : ℕ) (field : List ℕ) (left : List (List ℕ)) (kept : Option (List LinearView)) : Type 0 where
  pub done : List LinearView
  pub form : AreFacts slots done
  pub keeps : KeepsFew done kept
  pub parts : parts_of 44 field ≡ map linear_text done ++ left

pub linear_lacks : (slots : ℕ) → slots < 2 ^ 64 → (s : LinearView) → IsSum slots s → Lacks 44 (linear_text s)
linear_lacks slots small s form = part_lacks (linear_text s) (part_linear slots s small form)

all_in_front : (P : LinearView → Type 0) (xs : List LinearView) (x : LinearView) → AllByRecursion P (xs ++ x ∷ []) → AllByRecursion P xs × P x
all_in_front P [] x all = (tt, all.0)
all_in_front P (y ∷ xs) x all = let (front, last) = all_in_front P xs x all.1 in ((all.0, front), last)

pub few_in_front : (done : List LinearView) (next : LinearView) → AreFewFacts (done ++ next ∷ []) → AreFewFacts done × (length done < 4) × IsShort next
few_in_front done next few =
    let (front, last) = all_in_front IsShort done next few.short in
    let count : length done + 1 ≤ 4 = omega (arith, few.count, length-append done (next ∷ [])) in
    (record { count = omega arith; short = front }, omega arith, last)

pub few_more : (done : List LinearView) (next : LinearView) → AreFewFacts done → length done < 4 → IsShort next → AreFewFacts (done ++ next ∷ [])
few_more done next few room short = record {
  count = omega (arith, length-append done (next ∷ []));
  short = all_more IsShort done next few.short short;
}

set_padded : (xs : List LinearView) (x : LinearView) (k : ℕ) → set (xs ++ replicate (suc k) padding_fact) (length xs) x ≡ (xs ++ x ∷ []) ++ replicate k padding_fact
set_padded xs x k = set-append_seam xs padding_fact (replicate k padding_fact) x ∙ sym (append_assoc xs (x ∷ []) (replicate k padding_fact))

set_in_padded : (xs ys : List LinearView) (x : LinearView) → length xs < 4 → ys ≡ padded_facts xs → set ys (length xs) x ≡ padded_facts (xs ++ x ∷ [])
set_in_padded xs ys x h e =
    let k = 3 - length xs in
    let before : 4 - length xs ≡ suc k = omega arith in
    let after : 4 - length (xs ++ x ∷ []) ≡ k = omega (arith, length-append xs (x ∷ [])) in
    ap (λ zs. set zs (length xs) x) e
    ∙ ap (λ n. set (xs ++ replicate n padding_fact) (length xs) x) before
    ∙ set_padded xs x k
    ∙ ap (λ n. (xs ++ x ∷ []) ++ replicate n padding_fact) (sym after)

-- one more fact in the four places
pub stored_more : (facts : List LinearView) (count : ℕ) (x : LinearView) → AreStored facts count → count < 4 → AreStored (set facts count x) (count + 1)
stored_more facts count x h room =
    let four = length-stored-facts facts count h in
    let front = length-facts-front facts count h in
    let more = take_more_set facts count x (omega arith) in
    record {
      rest = rw more (subst (λ n. set facts n x ≡ padded_facts (take count facts ++ x ∷ [])) front (set_in_padded (take count facts) facts x (omega arith) h.rest));
      within = omega arith;
    }

module _ (slots : ℕ) (small : slots < 2 ^ 64) (field : List ℕ) (left : List (List ℕ)) (kept : Option (List LinearView)) (reading : AreReading slots field left kept) where
  -- one more fact
  facts_with : (behind : List (List ℕ)) (part : List ℕ) (after : Option (List LinearView)) (x : LinearView) → left ≡ part ∷ behind → part ≡ linear_text x → IsSum slots x → KeepsFew (reading.done ++ x ∷ []) after → AreReading slots field behind after
  facts_with behind part after x taken is form keeps = record {
    done = reading.done ++ x ∷ [];
    form = all_more (IsSum slots) reading.done x reading.form form;
    keeps = keeps;
    parts = list_more linear_text (IsSum slots) (linear_lacks slots small) field left behind reading.done x part reading.parts taken is;
  }

  pub facts_more : (behind : List (List ℕ)) (part : List ℕ) (after : Option (List LinearView)) (fact : Counted LinearView) → left ≡ part ∷ behind → ReadsCounted linear_text (IsSum slots) IsShort part (Some fact) → ((done : List LinearView) (next : LinearView) → KeepsFew done kept → IsCountedAs next fact → KeepsFew (done ++ next ∷ []) after) → AreReading slots field behind after
  facts_more behind part after (Fits x) taken (form, short, is) keeps = facts_with behind part after x taken is form (keeps reading.done x reading.keeps (short, refl))
  facts_more behind part after TooMany taken (x, form, long, is) keeps = facts_with behind part after x taken is form (keeps reading.done x reading.keeps long)

  -- a part that is no fact
  pub facts_stop : (behind : List (List ℕ)) (part : List ℕ) → (field ≡ codes "-" → ⊥) → left ≡ part ∷ behind → ((x : LinearView) → IsSum slots x → part ≡ linear_text x → ⊥) → (facts : List LinearView) → AreFacts slots facts → field ≡ facts_text facts → ⊥
  unfolding facts_text
  facts_stop behind part other taken no_text facts form is =
      list_stops linear_text (IsSum slots) (linear_lacks slots small) field part (map linear_text reading.done) behind other
      (reading.parts ∙ ap (λ f. map linear_text reading.done ++ f) taken) no_text facts form is

  -- all parts were read
  pub facts_end : left ≡ [] → field ≡ facts_text reading.done
  unfolding facts_text
  facts_end none = list_ends linear_text (IsSum slots) (linear_lacks slots small) field reading.done (reading.parts ∙ ap (λ f. map linear_text reading.done ++ f) none)

  pub facts_fit : (facts : List LinearView) → left ≡ [] → kept ≡ Some facts → AreFacts slots facts × AreFewFacts facts × (field ≡ facts_text facts)
  facts_fit facts none is =
      let (few, same) = rw is at reading.keeps in
      rw same (reading.form, few, facts_end none)

  pub facts_many : left ≡ [] → kept ≡ None → (facts : List LinearView) × AreFacts slots facts × (AreFewFacts facts → ⊥) × (field ≡ facts_text facts)
  facts_many none is = (reading.done, reading.form, (rw is at reading.keeps), facts_end none)

pub no_facts : (slots : ℕ) (field : List ℕ) → field ≡ codes "-" → AreFacts slots [] × AreFewFacts [] × (field ≡ facts_text [])
unfolding facts_text
no_facts slots field is = (tt, record { count = omega arith; short = tt }, is)

pub reading_facts : (slots : ℕ) (field : List ℕ) → AreReading slots field (parts_of 44 field) (Some [])
reading_facts slots field = record { done = []; form = tt; keeps = (record { count = omega arith; short = tt }, refl); parts = refl }
