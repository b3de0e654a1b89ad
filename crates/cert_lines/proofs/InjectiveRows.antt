-- No two rows in form have the same fields.
use Rattle.std.proofs.Common.{◌≡◌, ◌<◌, ◌^◌, ℕ, List, [], ◌∷◌, ◌++◌, get_or, length, map, Option, refl, sym, ap, subst, ◌∙◌, arith}
use Rattle.std.proofs.lemmas.Fmt.{decimal_injective}
use Rattle.std.specs.Fmt.{decimal}
use Rattle.abs_state.specs.declared.pairs.Pairs.{Pairs}
use Rattle.cert_lines.proofs.RowLists.{pairs_in}
use Rattle.cert_lines.specs.Row.{IsArmed, IsPlace, IsRow, armed_field, fields_of_row, last_fields, pair_fields, place_fields, place_of, row_flags}
use Rattle.cert_lines.specs.Version.{flag_form}
use Rattle.cert_lines.specs.declared.row.RowPlace.{RowPlace}
use Rattle.cert_lines.specs.declared.row.Row.{Row}
use Rattle.cert_lines.specs.declared.version.Version.{Version}
use Rattle.cert_lines.specs.declared.version.Version.TheVariants.{One, Two, Three}
use Rattle.intervals.specs.declared.pair.Pair.{Pair}
use Rattle.loop_bounds.specs.Linear.{LinearView}
use Rattle.cert_fields.proofs.LinearInjectiveLaws.{potential_text_injective}
use Rattle.cert_fields.proofs.InjectiveLaws.{facts_text_injective, mode_letter_injective, pair_text_injective, shape_text_injective}
use Rattle.cert_fields.specs.Facts.{AreFacts}
use Rattle.cert_fields.specs.Linear.{IsPotential}
use Rattle.cert_fields.specs.Pair.{pair_text}
use Rattle.cert_flags.proofs.FlagsLaws.{flags_text_injective}
use Rattle.cert_flags.specs.Flags.{AreFlags}
use Rattle.cert_flags.specs.declared.flags.RowFlags.{RowFlags}
use Rattle.stack_shape.specs.declared.slot.Slot.{Slot}
use Rattle.texts.proofs.NumberLemmas.{hex4_injective}
use Rattle.texts.specs.Numbers.{IsWord}

-- a field of a line by its place
abbrev pub field : ℕ → List (List ℕ) → List ℕ
field n fields = get_or fields n []

pub word_injective : (m n : ℕ) → IsWord m → IsWord n → decimal m ≡ decimal n → m ≡ n
word_injective m n small too e = decimal_injective m n (omega (arith, small)) (omega (arith, too)) e

-- lists with first parts of equal length are equal part by part
same_parts : {X : Type 0} (xs ys us vs : List X) → length xs ≡ length ys → xs ++ us ≡ ys ++ vs → (xs ≡ ys) × (us ≡ vs)
same_parts [] [] us vs count e = (refl, e)
same_parts [] (y ∷ ys) us vs count e = absurd (omega (arith, count))
same_parts (x ∷ xs) [] us vs count e = absurd (omega (arith, count))
same_parts (x ∷ xs) (y ∷ ys) us vs count e =
    let first : x ≡ y = cc in
    let others : xs ++ us ≡ ys ++ vs = cc in
    let (front, behind) = same_parts xs ys us vs (omega (arith, count)) others in
    (ap (λ z. z ∷ xs) first ∙ ap (λ zs. y ∷ zs) front, behind)

same_armed : (v : Version) (m n : ℕ) → IsArmed v m → IsArmed v n → armed_field v m ≡ armed_field v n → m ≡ n
same_armed One m n small too e = small ∙ sym too
same_armed Two m n small too e = word_injective m n small too (ap (field 0) e)
same_armed Three m n small too e = word_injective m n small too (ap (field 0) e)

length_armed : (v : Version) (m n : ℕ) → length (armed_field v m) ≡ length (armed_field v n)
length_armed One m n = refl
length_armed Two m n = refl
length_armed Three m n = refl

same_place : (v : Version) (p q : RowPlace) → IsPlace v p → IsPlace v q → place_fields v p ≡ place_fields v q → p ≡ q
same_place v p q form too e =
    let others : armed_field v p.armed ≡ armed_field v q.armed = cc in
    ap (λ n. let r : RowPlace = record { proc = n; address = p.address; mode = p.mode; armed = p.armed } in r)
    (word_injective p.proc q.proc form.proc too.proc (ap (field 0) e))
    ∙ ap (λ a. let r : RowPlace = record { proc = q.proc; address = a; mode = p.mode; armed = p.armed } in r)
    (hex4_injective p.address q.address form.address too.address (ap (field 1) e))
    ∙ ap (λ m. let r : RowPlace = record { proc = q.proc; address = q.address; mode = m; armed = p.armed } in r)
    (mode_letter_injective p.mode q.mode (ap (field 2) e))
    ∙ ap (λ n. let r : RowPlace = record { proc = q.proc; address = q.address; mode = q.mode; armed = n } in r)
    (same_armed v p.armed q.armed form.armed too.armed others)

-- the ten pairs of a list
abbrev pairs_of : Pair → List Pair → Pairs
pairs_of p ps = record {
  af = get_or ps 0 p;
  bc = get_or ps 1 p;
  de = get_or ps 2 p;
  hl = get_or ps 3 p;
  ix = get_or ps 4 p;
  iy = get_or ps 5 p;
  alternate_af = get_or ps 6 p;
  alternate_bc = get_or ps 7 p;
  alternate_de = get_or ps 8 p;
  alternate_hl = get_or ps 9 p;
}

pair_texts_injective : (ps qs : List Pair) → map pair_text ps ≡ map pair_text qs → ps ≡ qs
pair_texts_injective [] [] e = refl
pair_texts_injective [] (q ∷ qs) e = absurd (omega (arith, ap length e))
pair_texts_injective (p ∷ ps) [] e = absurd (omega (arith, ap length e))
pair_texts_injective (p ∷ ps) (q ∷ qs) e =
    let first : pair_text p ≡ pair_text q = cc in
    let others : map pair_text ps ≡ map pair_text qs = cc in
    ap (λ r. r ∷ ps) (pair_text_injective p q first) ∙ ap (λ rs. q ∷ rs) (pair_texts_injective ps qs others)

same_pairs : (p q : Pairs) → pair_fields p ≡ pair_fields q → p ≡ q
same_pairs p q e = ap (pairs_of p.af) (pair_texts_injective (pairs_in p) (pairs_in q) e)

-- the parts of a row
abbrev row_of : RowPlace → Pairs → RowFlags → List LinearView → List Slot → Option LinearView → Row
row_of place pairs flags facts shape potential = record {
  proc = place.proc;
  address = place.address;
  state = record { mode = place.mode; armed = place.armed; pairs = pairs; flag = flags.fact; shape = shape };
  parts = flags.parts;
  facts = facts;
  potential = potential;
}

module _ (v : Version) (r s : Row) (form : IsRow v r) (too : IsRow v s) where
  same_last : place_of r ≡ place_of s → r.state.pairs ≡ s.state.pairs → last_fields v r ≡ last_fields v s → r ≡ s
  same_last place pairs e =
      let few = form.slots in
      let slots : length r.state.shape < 2 ^ 64 = omega (arith, few) in
      let shape = shape_text_injective r.state.shape s.state.shape form.shape too.shape (ap (field 2) e) in
      let count = sym (ap length shape) in
      let flags = flags_text_injective (flag_form v) (length r.state.shape) slots (row_flags r) (row_flags s) form.flags
      (subst (λ n. AreFlags (flag_form v) n (row_flags s)) count too.flags) (ap (field 0) e) in
      let facts = facts_text_injective (length r.state.shape) slots r.facts s.facts form.facts
      (subst (λ n. AreFacts n s.facts) count too.facts) (ap (field 1) e) in
      let potential = potential_text_injective (length r.state.shape) slots r.potential s.potential form.potential
      (subst (λ n. IsPotential n s.potential) count too.potential) (ap (field 3) e) in
      ap (λ p. row_of p r.state.pairs (row_flags r) r.facts r.state.shape r.potential) place
      ∙ ap (λ ps. row_of (place_of s) ps (row_flags r) r.facts r.state.shape r.potential) pairs
      ∙ ap (λ f. row_of (place_of s) s.state.pairs f r.facts r.state.shape r.potential) flags
      ∙ ap (λ fs. row_of (place_of s) s.state.pairs (row_flags s) fs r.state.shape r.potential) facts
      ∙ ap (λ slots. row_of (place_of s) s.state.pairs (row_flags s) s.facts slots r.potential) shape
      ∙ ap (λ p. row_of (place_of s) s.state.pairs (row_flags s) s.facts s.state.shape p) potential

  pub row_injective : fields_of_row v r ≡ fields_of_row v s → r ≡ s
  unfolding fields_of_row
  row_injective e =
      let (place, others) = same_parts (place_fields v (place_of r)) (place_fields v (place_of s)) _ _
      (omega (arith, length_armed v r.state.armed s.state.armed)) e in
      let (pairs, last) = same_parts (pair_fields r.state.pairs) (pair_fields s.state.pairs) _ _ refl others in
      same_last (same_place v (place_of r) (place_of s) form.place too.place place)
      (same_pairs r.state.pairs s.state.pairs pairs) last
