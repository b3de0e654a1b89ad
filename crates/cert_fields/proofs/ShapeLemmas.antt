-- The slots of a row's shape while they are read.
use Rattle.std.proofs.Common.{◌≡◌, ◌<◌, ◌≤◌, ◌+◌, ℕ, List, [], ◌∷◌, ◌++◌, length, map, codes, refl, ap, ◌∙◌, inl, inr, arith, length-append}
use Rattle.std.proofs.lemmas.Bool.{cases_Bool}
use Rattle.std.proofs.lemmas.List.{length-map}
use Rattle.intervals.specs.declared.pair.Pair.{Pair}
use Rattle.stack_shape.specs.declared.slot.Slot.{Slot}
use Rattle.texts.specs.Fields.{parts_of}
use Rattle.cert_fields.specs.Pair.{IsPair, is_full, known_text, origin_text, pair_text}
use Rattle.cert_fields.specs.Shape.{IsShape, shape_text}
use Rattle.cert_fields.proofs.CutLemmas.{Lacks}
use Rattle.cert_fields.proofs.LinearPartLemmas.{part_lacks}
use Rattle.cert_fields.proofs.PartLemmas.{part_pair}
use Rattle.cert_fields.proofs.PartsLemmas.{list_stops, list_ends, list_more, all_more, parts_bound}
use Rattle.cert_fields.proofs.PairLemmas.{known_star, known_ranges, ranges_length}

abbrev pub slot_text : Slot → List ℕ
slot_text slot = pair_text slot.pair

-- no pair's text is empty
known_some : (p : Pair) → 0 < length (known_text p)
known_some p = elim (cases_Bool (is_full p)) [
  | inl full ↦ omega (arith, ap length (known_star p full))
  | inr part ↦ omega (arith, ap length (known_ranges p part), ranges_length p)
]

pub pair_some : (p : Pair) → 0 < length (pair_text p)
unfolding pair_text
pair_some p = omega (arith, known_some p, length-append (known_text p) (origin_text p.origin))

-- some slots were read, and some parts of the text are left
pub record IsReadingShape (field : List ℕ) (left : List (List ℕ)) (shape : List Slot) (count : ℕ) : Type 0 where
  pub done : List Slot
  pub form : IsShape done
  pub kept : length done ≤ 64 → shape ≡ done
  pub counted : count ≡ length done
  pub parts : parts_of 44 field ≡ map slot_text done ++ left

pub slot_lacks : (slot : Slot) → IsPair slot.pair → Lacks 44 (slot_text slot)
slot_lacks slot form = part_lacks (slot_text slot) (part_pair slot.pair)

module _ (field : List ℕ) (left : List (List ℕ)) (shape : List Slot) (count : ℕ) (reading : IsReadingShape field left shape count) where
  -- one more slot
  pub shape_more : (behind : List (List ℕ)) (part : List ℕ) (after : List Slot) (p : Pair) → left ≡ part ∷ behind → IsPair p × (part ≡ pair_text p) → (length shape < 64 → after ≡ shape ++ (record { pair = p }) ∷ []) → IsReadingShape field behind after (count + 1)
  shape_more behind part after p taken (form, is) pushed =
      let slot : Slot = record { pair = p } in
      let counted = reading.counted in
      record {
        done = reading.done ++ slot ∷ [];
        form = all_more (λ s. IsPair s.pair) reading.done slot reading.form form;
        kept = λ few.
            let short : length reading.done < 64 = omega (arith, few, length-append reading.done (slot ∷ [])) in
            let same = reading.kept (omega arith) in
            let room : length shape < 64 = omega (arith, ap length same) in
            pushed room ∙ ap (λ s. s ++ slot ∷ []) same;
        counted = omega (arith, length-append reading.done (slot ∷ []));
        parts = list_more slot_text (λ s. IsPair s.pair) slot_lacks field left behind reading.done slot part reading.parts taken is;
      }

  -- each slot has at least one byte
  pub count_below : (behind : List (List ℕ)) (part : List ℕ) (p : Pair) → left ≡ part ∷ behind → part ≡ pair_text p → count < length field
  count_below behind part p taken is = bounded reading.done (reading.parts ∙ ap (λ f. map slot_text reading.done ++ f) taken) reading.counted
    where
      bounded : (done : List Slot) → parts_of 44 field ≡ map slot_text done ++ part ∷ behind → count ≡ length done → count < length field
      bounded [] parts counted = omega (arith, parts_bound field part behind parts (omega (arith, ap length is, pair_some p)))
      bounded (s ∷ done) parts counted =
          omega (arith, parts_bound field (slot_text s) (map slot_text done ++ part ∷ behind) parts (pair_some s.pair), length-append (map slot_text done) (part ∷ behind), length-map done slot_text)

  -- a part that is no pair
  pub shape_stops : (behind : List (List ℕ)) (part : List ℕ) → (field ≡ codes "-" → ⊥) → left ≡ part ∷ behind → ((p : Pair) → IsPair p → part ≡ pair_text p → ⊥) → (slots : List Slot) → IsShape slots → field ≡ shape_text slots → ⊥
  unfolding shape_text
  shape_stops behind part other taken no_text slots form is =
      list_stops slot_text (λ s. IsPair s.pair) slot_lacks field part (map slot_text reading.done) behind other
      (reading.parts ∙ ap (λ f. map slot_text reading.done ++ f) taken) (λ s. no_text s.pair) slots form is

  -- all parts were read
  pub shape_ends : left ≡ [] → field ≡ shape_text reading.done
  unfolding shape_text
  shape_ends none = list_ends slot_text (λ s. IsPair s.pair) slot_lacks field reading.done (reading.parts ∙ ap (λ f. map slot_text reading.done ++ f) none)

  pub shape_fits : left ≡ [] → count ≤ 64 → IsShape shape × (length shape ≤ 64) × (count ≡ length shape) × (field ≡ shape_text shape)
  shape_fits none few =
      let counted = reading.counted in
      let same = reading.kept (omega arith) in
      rw same (reading.form, omega arith, counted, shape_ends none)

  pub shape_long : left ≡ [] → 64 < count → (slots : List Slot) × IsShape slots × (64 < length slots) × (count ≡ length slots) × (field ≡ shape_text slots)
  shape_long none many = (reading.done, reading.form, omega (arith, reading.counted), reading.counted, shape_ends none)

pub no_slots : (field : List ℕ) → field ≡ codes "-" → IsShape [] × (length {A = Slot} [] ≤ 64) × (0 ≡ length {A = Slot} []) × (field ≡ shape_text [])
unfolding shape_text
no_slots field is = (tt, omega arith, refl, is)
