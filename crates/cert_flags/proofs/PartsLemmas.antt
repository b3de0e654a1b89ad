-- The flag parts of a row: while they are read, and the laws of their text.
use Rattle.std.proofs.Common.{◌≡◌, ◌<◌, ◌≤◌, ◌^◌, ◌+◌, ◌*◌, ℕ, All, List, [], ◌∷◌, ◌++◌, length, map, codes, Option, Some, None, refl, ap, ◌∙◌, arith, length-append}
use Rattle.std.proofs.lemmas.List.{length-map}
use Rattle.std.proofs.lemmas.List.Elements.{All-from_recursion, recursion_from_All}
use Rattle.std.specs.List.{AllByRecursion, join_with_byte}
use Rattle.texts.specs.Fields.{parts_of}
use Rattle.texts.proofs.PlainLemmas.{IsPlain, plain_from_test}
use Rattle.flag_letters.specs.declared.part.FlagPart.{FlagPart}
use Rattle.cert_fields.specs.Counted.{ReadsCounted}
use Rattle.cert_fields.specs.Facts.{list_text}
use Rattle.cert_fields.specs.declared.counted.Counted.{Counted}
use Rattle.cert_fields.specs.declared.counted.Counted.TheVariants.{Fits, TooMany}
use Rattle.cert_fields.specs.Linear.{HasSlotsBelow}
use Rattle.cert_fields.proofs.LinearForm.{sum_within}
use Rattle.cert_fields.proofs.LinearPartLemmas.{part_is_plain}
use Rattle.cert_fields.proofs.PartsLemmas.{list_stops, list_ends, list_more, list_injective, all_more}
use Rattle.cert_flags.specs.Kept.{IsPartCountedAs, KeepsFewParts}
use Rattle.cert_flags.specs.Parts.{AreFewParts, AreFlagParts, IsFlagPart, IsShortPart, part_text, parts_text}
use Rattle.cert_flags.proofs.PartLemmas.{dash_is_no_part, flag_part_lacks, length_part, part_of_text, part_text_injective}

-- some flag parts were read, and some parts of the text are left
pub record AreReadingParts (slots : ℕ) (field : List ℕ) (left : List (List ℕ)) (kept : Option (List FlagPart)) : Type 0 where
  pub done : List FlagPart
  pub form : AreFlagParts slots done
  pub keeps : KeepsFewParts done kept
  pub parts : parts_of 44 field ≡ map part_text done ++ left

all_in_front : (P : FlagPart → Type 0) (xs : List FlagPart) (x : FlagPart) → AllByRecursion P (xs ++ x ∷ []) → AllByRecursion P xs × P x
all_in_front P [] x all = (tt, all.0)
all_in_front P (y ∷ xs) x all = let (front, last) = all_in_front P xs x all.1 in ((all.0, front), last)

pub few_in_front : (done : List FlagPart) (next : FlagPart) → AreFewParts (done ++ next ∷ []) → AreFewParts done × (length done < 8) × IsShortPart next
few_in_front done next few =
    let (front, last) = all_in_front IsShortPart done next few.short in
    let count : length done + 1 ≤ 8 = omega (arith, few.count, length-append done (next ∷ [])) in
    (record { count = omega arith; short = front }, omega arith, last)

pub few_more : (done : List FlagPart) (next : FlagPart) → AreFewParts done → length done < 8 → IsShortPart next → AreFewParts (done ++ next ∷ [])
few_more done next few room short = record {
  count = omega (arith, length-append done (next ∷ []));
  short = all_more IsShortPart done next few.short short;
}

module _ (slots : ℕ) (small : slots < 2 ^ 64) (field : List ℕ) (left : List (List ℕ)) (kept : Option (List FlagPart)) (reading : AreReadingParts slots field left kept) where
  -- one more flag part
  parts_with : (behind : List (List ℕ)) (text : List ℕ) (after : Option (List FlagPart)) (x : FlagPart) → left ≡ text ∷ behind → text ≡ part_text x → IsFlagPart slots x → KeepsFewParts (reading.done ++ x ∷ []) after → AreReadingParts slots field behind after
  parts_with behind text after x taken is form keeps = record {
    done = reading.done ++ x ∷ [];
    form = all_more (IsFlagPart slots) reading.done x reading.form form;
    keeps = keeps;
    parts = list_more part_text (IsFlagPart slots) (flag_part_lacks slots small) field left behind reading.done x text reading.parts taken is;
  }

  pub parts_more : (behind : List (List ℕ)) (text : List ℕ) (after : Option (List FlagPart)) (part : Counted FlagPart) → left ≡ text ∷ behind → ReadsCounted part_text (IsFlagPart slots) IsShortPart text (Some part) → ((done : List FlagPart) (next : FlagPart) → KeepsFewParts done kept → IsPartCountedAs next part → KeepsFewParts (done ++ next ∷ []) after) → AreReadingParts slots field behind after
  parts_more behind text after (Fits x) taken (form, short, is) keeps = parts_with behind text after x taken is form (keeps reading.done x reading.keeps (short, refl))
  parts_more behind text after TooMany taken (x, form, long, is) keeps = parts_with behind text after x taken is form (keeps reading.done x reading.keeps long)

  -- a text that is no flag part
  pub parts_stop : (behind : List (List ℕ)) (text : List ℕ) → (field ≡ codes "-" → ⊥) → left ≡ text ∷ behind → ((x : FlagPart) → IsFlagPart slots x → text ≡ part_text x → ⊥) → (parts : List FlagPart) → AreFlagParts slots parts → field ≡ parts_text parts → ⊥
  unfolding parts_text
  parts_stop behind text other taken no_text parts form is =
      list_stops part_text (IsFlagPart slots) (flag_part_lacks slots small) field text (map part_text reading.done) behind other
      (reading.parts ∙ ap (λ f. map part_text reading.done ++ f) taken) no_text parts form is

  -- all flag parts were read
  pub parts_end : left ≡ [] → field ≡ parts_text reading.done
  unfolding parts_text
  parts_end none = list_ends part_text (IsFlagPart slots) (flag_part_lacks slots small) field reading.done (reading.parts ∙ ap (λ f. map part_text reading.done ++ f) none)

  pub parts_fit : (parts : List FlagPart) → left ≡ [] → kept ≡ Some parts → AreFlagParts slots parts × AreFewParts parts × (field ≡ parts_text parts)
  parts_fit parts none is =
      let (few, same) = rw is at reading.keeps in
      rw same (reading.form, few, parts_end none)

  pub parts_many : left ≡ [] → kept ≡ None → (parts : List FlagPart) × AreFlagParts slots parts × (AreFewParts parts → ⊥) × (field ≡ parts_text parts)
  parts_many none is = (reading.done, reading.form, (rw is at reading.keeps), parts_end none)

pub no_parts : (slots : ℕ) (field : List ℕ) → field ≡ codes "-" → AreFlagParts slots [] × AreFewParts [] × (field ≡ parts_text [])
unfolding parts_text
no_parts slots field is = (tt, record { count = omega arith; short = tt }, is)

pub reading_parts : (slots : ℕ) (field : List ℕ) → AreReadingParts slots field (parts_of 44 field) (Some [])
reading_parts slots field = record { done = []; form = tt; keeps = (record { count = omega arith; short = tt }, refl); parts = refl }

-- ---- laws of the text

-- no two lists of flag parts in form have the same text
pub parts_text_injective : (slots : ℕ) → slots < 2 ^ 64 → (f g : List FlagPart) → AreFlagParts slots f → AreFlagParts slots g → parts_text f ≡ parts_text g → f ≡ g
unfolding parts_text
parts_text_injective slots small f g form too e =
    list_injective part_text (IsFlagPart slots) (flag_part_lacks slots small) (dash_is_no_part slots) (part_text_injective slots small) f g form too e

-- each byte is above the space
plain_append : (a b : List ℕ) → IsPlain a → IsPlain b → IsPlain (a ++ b)
plain_append [] b h k = k
plain_append (x ∷ a) b h k = (h.0, plain_append a b h.1 k)

plain_join : (first : List ℕ) (others : List (List ℕ)) → AllByRecursion IsPlain (first ∷ others) → IsPlain (join_with_byte 44 (first ∷ others))
plain_join first [] plain = plain.0
plain_join first (next ∷ others) plain = plain_append first (44 ∷ join_with_byte 44 (next ∷ others)) plain.0 (omega arith, plain_join next others plain.1)

plain_list : (texts : List (List ℕ)) → AllByRecursion IsPlain texts → IsPlain (list_text texts)
plain_list [] plain = plain_from_test (codes "-") refl
plain_list (first ∷ others) plain = plain_join first others plain

plain_each : (slots : ℕ) (parts : List FlagPart) → slots < 2 ^ 64 → AreFlagParts slots parts → AllByRecursion IsPlain (map part_text parts)
plain_each slots [] small form = tt
plain_each slots (p ∷ parts) small form = (part_is_plain (part_text p) (part_of_text slots small p form.0), plain_each slots parts small form.1)

pub plain_parts : (slots : ℕ) (parts : List FlagPart) → slots < 2 ^ 64 → AreFlagParts slots parts → IsPlain (parts_text parts)
unfolding parts_text
plain_parts slots parts small form = plain_list (map part_text parts) (plain_each slots parts small form)

-- eight flag parts have at most 415 bytes with the commas between them
length_join : (most : ℕ) (first : List ℕ) (others : List (List ℕ)) → AllByRecursion (λ t. length t ≤ most) (first ∷ others) → length (join_with_byte 44 (first ∷ others)) ≤ most + (most + 1) * length others
length_join most first [] short = omega (arith, short.0)
length_join most first (next ∷ others) short =
    omega (arith, length-append first (44 ∷ join_with_byte 44 (next ∷ others)), short.0, length_join most next others short.1)

short_each : (slots : ℕ) (parts : List FlagPart) → AreFlagParts slots parts → AllByRecursion IsShortPart parts → AllByRecursion (λ t. length t ≤ 51) (map part_text parts)
short_each slots [] form short = tt
short_each slots (p ∷ parts) form short = (length_part slots p form.0 short.0, short_each slots parts form.1 short.1)

length_some_parts : (slots : ℕ) (parts : List FlagPart) → AreFlagParts slots parts → AreFewParts parts → length (list_text (map part_text parts)) ≤ 415
length_some_parts slots [] form few = omega arith
length_some_parts slots (p ∷ parts) form few =
    let count = few.count in
    omega (arith, length_join 51 (part_text p) (map part_text parts) (short_each slots (p ∷ parts) form few.short), length-map parts part_text)

pub length_parts : (slots : ℕ) (parts : List FlagPart) → AreFlagParts slots parts → AreFewParts parts → length (parts_text parts) ≤ 415
unfolding parts_text
length_parts slots parts form few = length_some_parts slots parts form few

-- ---- the slots that flag parts name

form_within : (slots others : ℕ) (parts : List FlagPart) → AreFlagParts slots parts → AllByRecursion (λ p. HasSlotsBelow others p.linear) parts →
    AreFlagParts others parts
form_within slots others [] form within = tt
form_within slots others (p ∷ parts) form within =
    (sum_within slots others p.linear form.0 within.0, form_within slots others parts form.1 within.1)

-- flag parts in form in a row with some slots are in form in one with others, if they name no slot beyond these
pub parts_within : (slots others : ℕ) (parts : List FlagPart) → AreFlagParts slots parts → All (λ p. HasSlotsBelow others p.linear) parts →
    AreFlagParts others parts
parts_within slots others parts form within =
    form_within slots others parts form (recursion_from_All (λ p. HasSlotsBelow others p.linear) parts within)

names_within : (slots : ℕ) (parts : List FlagPart) → AreFlagParts slots parts → AllByRecursion (λ p. HasSlotsBelow slots p.linear) parts
names_within slots [] form = tt
names_within slots (p ∷ parts) form = (form.0.within_shape, names_within slots parts form.1)

pub within_parts : (slots : ℕ) (parts : List FlagPart) → AreFlagParts slots parts → All (λ p. HasSlotsBelow slots p.linear) parts
within_parts slots parts form = All-from_recursion (λ p. HasSlotsBelow slots p.linear) parts (names_within slots parts form)
