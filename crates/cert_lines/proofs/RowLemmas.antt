-- What was read of a row's last fields and of their counts.
use Rattle.std.proofs.Common.{◌≡◌, ◌<◌, ℕ, List, [], ◌∷◌, ◌++◌, drop, length, Some, refl, sym, ap, subst, ◌∙◌, arith}
use Rattle.abs_state.specs.declared.mode.Mode.TheVariants.{Unset}
use Rattle.abs_state.specs.declared.pairs.Pairs.{Pairs}
use Rattle.cert_lines.specs.Read.{IsLast, MakesRowOf, ReadsRow, TellsCounted, row_with}
use Rattle.cert_lines.specs.Row.{ArePairs, IsPlace, IsRow, IsShortRow, Last, fields_of_row, last_fields, last_of, last_texts, pair_fields, place_fields, place_of}
use Rattle.cert_lines.specs.Version.{flag_form}
use Rattle.cert_lines.specs.declared.row.RowPlace.{RowPlace}
use Rattle.cert_lines.specs.declared.row.Row.{Row}
use Rattle.cert_lines.specs.declared.row_reading.ReadRow.{ReadRow}
use Rattle.cert_lines.specs.declared.row_reading.ReadRow.TheVariants as rows
use Rattle.cert_lines.specs.declared.version.Version.{Version}
use Rattle.cert_lines.specs.declared.version.Version.TheVariants.{One, Two, Three}
use Rattle.cert_lines.proofs.FieldLemmas.{same_first, same_others}
use Rattle.cert_fields.specs.Counted.{ReadsCounted}
use Rattle.cert_fields.specs.Facts.{facts_text}
use Rattle.cert_flags.specs.Flags.{flags_text}
use Rattle.cert_fields.specs.Linear.{potential_text}
use Rattle.cert_fields.specs.Shape.{IsShape, IsShortShape, ReadsSlots, shape_text}
use Rattle.cert_fields.specs.declared.counted.Counted.{Counted}
use Rattle.cert_fields.specs.declared.counted.Counted.TheVariants.{Fits, TooMany}
use Rattle.cert_fields.proofs.InjectiveLaws.{mode_letter_injective, shape_text_injective}
use Rattle.stack_shape.specs.declared.slot.Slot.{Slot}

-- a value with the text that was read, and what is kept of it
abbrev pub Value : {X T : Type 0} → (X → T) → (X → Type 0) → (X → Type 0) → T → Counted X → Type 0
Value {X} text InForm Few seen kept = (x : X) × InForm x × TellsCounted Few x kept × (seen ≡ text x)

pub counted_value : {X T : Type 0} (text : X → T) (InForm Few : X → Type 0) (seen : T) (kept : Counted X) → ReadsCounted text InForm Few seen (Some kept) → Value text InForm Few seen kept
counted_value text InForm Few seen (Fits x) reads = (x, reads.0, (refl, reads.1), reads.2)
counted_value text InForm Few seen TooMany reads = (reads.0, reads.1, reads.2, reads.3)

-- the slots with the text that was read
abbrev pub Slots : List ℕ → ℕ → Counted (List Slot) → Type 0
Slots seen count kept = (slots : List Slot) × IsShape slots × TellsCounted IsShortShape slots kept × (count ≡ length slots) × (seen ≡ shape_text slots)

pub slots_value : (seen : List ℕ) (count : ℕ) (kept : Counted (List Slot)) → ReadsSlots seen count kept → Slots seen count kept
slots_value seen count (Fits slots) reads = (slots, reads.0, (refl, reads.1), reads.2, reads.3)
slots_value seen count TooMany reads = (reads.0, reads.1, (λ short. absurd (omega (arith, reads.2, short))), reads.3, reads.4)

-- the count is that of any shape in form with this text
pub count_is : (seen : List ℕ) (count : ℕ) (kept : Counted (List Slot)) → ReadsSlots seen count kept → (slots : List Slot) → IsShape slots → seen ≡ shape_text slots → count ≡ length slots
count_is seen count kept reads slots form same =
    let (own, own_form, _, is, text) = slots_value seen count kept reads in
    is ∙ ap length (shape_text_injective own slots own_form form (sym text ∙ same))

-- the four last fields, one by one
module _ (v : Version) (a b c d : List ℕ) (rest : List (List ℕ)) (last : Last) (same : a ∷ b ∷ c ∷ d ∷ rest ≡ last_texts v last) where
  behind_flag : b ∷ c ∷ d ∷ rest ≡ facts_text last.facts ∷ shape_text last.shape ∷ potential_text last.potential ∷ []
  behind_flag = same_others _ _ _ _ same

  behind_facts : c ∷ d ∷ rest ≡ shape_text last.shape ∷ potential_text last.potential ∷ []
  behind_facts = same_others _ _ _ _ behind_flag

  behind_shape : d ∷ rest ≡ potential_text last.potential ∷ []
  behind_shape = same_others _ _ _ _ behind_facts

  pub potential_is : d ≡ potential_text last.potential
  potential_is = same_first _ _ _ _ behind_shape

  pub none_left : rest ≡ []
  none_left = same_others _ _ _ _ behind_shape

pub flags_is : (v : Version) (a : List ℕ) (rest : List (List ℕ)) (last : Last) → a ∷ rest ≡ last_texts v last → a ≡ flags_text (flag_form v) last.flags
flags_is v a rest last same = same_first _ _ _ _ same

pub facts_is : (v : Version) (a b : List ℕ) (rest : List (List ℕ)) (last : Last) → a ∷ b ∷ rest ≡ last_texts v last → b ≡ facts_text last.facts
facts_is v a b rest last same = same_first _ _ _ _ (same_others _ _ _ _ same)

pub shape_is : (v : Version) (a b c : List ℕ) (rest : List (List ℕ)) (last : Last) → a ∷ b ∷ c ∷ rest ≡ last_texts v last → c ≡ shape_text last.shape
shape_is v a b c rest last same = same_first _ _ _ _ (same_others _ _ _ _ (same_others _ _ _ _ same))

-- after the fields of a place come the same fields
pub behind_place : (v : Version) (p q : RowPlace) (xs ys : List (List ℕ)) → place_fields v p ++ xs ≡ place_fields v q ++ ys → xs ≡ ys
behind_place One p q xs ys e = ap (drop 3) e
behind_place Two p q xs ys e = ap (drop 4) e
behind_place Three p q xs ys e = ap (drop 4) e

-- the fields of a place determine the mode
pub mode_told : (v : Version) (p q : RowPlace) (xs ys : List (List ℕ)) → place_fields v p ++ xs ≡ place_fields v q ++ ys → p.mode ≡ q.mode
mode_told v p q xs ys e =
    mode_letter_injective p.mode q.mode (same_first _ _ _ _ (same_others _ _ _ _ (same_others _ _ _ _ e)))

pub behind_pairs : (p q : Pairs) (xs ys : List (List ℕ)) → pair_fields p ++ xs ≡ pair_fields q ++ ys → xs ≡ ys
behind_pairs p q xs ys e = ap (drop 10) e

-- the last fields of a row in form
pub last_form : (v : Version) (row : Row) → IsRow v row → IsLast v (last_of row)
last_form v row form = record { flags = form.flags; facts = form.facts; shape = form.shape; slots = form.slots; potential = form.potential }

-- the fields of a row, in three parts
pub row_parts : (v : Version) (row : Row) (seen : List (List ℕ)) → seen ≡ fields_of_row v row → seen ≡ place_fields v (place_of row) ++ (pair_fields row.state.pairs ++ last_fields v row)
unfolding fields_of_row
row_parts v row seen e = e

pub parts_row : (v : Version) (row : Row) (seen : List (List ℕ)) → seen ≡ place_fields v (place_of row) ++ (pair_fields row.state.pairs ++ last_fields v row) → seen ≡ fields_of_row v row
unfolding fields_of_row
parts_row v row seen e = e

-- last fields with the same texts have shapes of one length
pub same_shapes : (v : Version) (a b : Last) → IsLast v a → IsLast v b → last_texts v a ≡ last_texts v b → length a.shape ≡ length b.shape
same_shapes v a b form_a form_b e = ap length (shape_text_injective a.shape b.shape form_a.shape form_b.shape (shape_is v _ _ _ _ b e))

none_length : (slots : List Slot) → slots ≡ [] → length slots ≡ 0
none_length slots e = ap length e

-- in mode `u` a row in form has no slots
pub unset_empty : (v : Version) (row : Row) → IsRow v row → row.state.mode ≡ Unset → length row.state.shape ≡ 0
unset_empty v row form unset = none_length row.state.shape (form.unset unset)

no_slot : (slots : List Slot) → (0 < length slots → ⊥) → slots ≡ []
no_slot [] none = refl
no_slot (s ∷ slots) none = absurd (none (omega arith))

-- the row with these parts is in form
pub made_form : (v : Version) (place : RowPlace) (pairs : Pairs) (last : Last) → IsPlace v place → ArePairs pairs → IsLast v last → (place.mode ≡ Unset → 0 < length last.shape → ⊥) →
    IsRow v (row_with place pairs last)
made_form v place pairs last place_form pairs_form form unset = record {
  place = place_form;
  pairs = pairs_form;
  flags = form.flags;
  facts = form.facts;
  shape = form.shape;
  slots = form.slots;
  unset = λ is. no_slot last.shape (unset is);
  potential = form.potential;
}

-- the answer to its fields
pub made_reads : (v : Version) (row : Row) (seen : List (List ℕ)) (made : ReadRow) → IsRow v row → seen ≡ fields_of_row v row → MakesRowOf row made → ReadsRow v seen (Some made)
made_reads v row seen (rows.Whole other) form e made =
    (subst (IsRow v) (sym made.0) form, subst IsShortRow (sym made.0) made.1, e ∙ ap (fields_of_row v) (sym made.0))
made_reads v row seen (rows.Crowded place) form e made = (row, form, made.1, made.0, e)
