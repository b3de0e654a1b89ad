-- Facts that are in form in a row, and the slots that they name.
use Rattle.std.proofs.Common.{ℕ, List, [], ◌∷◌, All}
use Rattle.std.specs.List.{AllByRecursion}
use Rattle.std.proofs.lemmas.List.Elements.{All-from_recursion, recursion_from_All}
use Rattle.loop_bounds.specs.Linear.{LinearView}
use Rattle.cert_fields.proofs.LinearForm.{sum_within}
use Rattle.cert_fields.specs.Facts.{AreFacts}
use Rattle.cert_fields.specs.Linear.{HasSlotsBelow}

form_within : (slots others : ℕ) (facts : List LinearView) → AreFacts slots facts → AllByRecursion (HasSlotsBelow others) facts →
    AreFacts others facts
form_within slots others [] form within = tt
form_within slots others (s ∷ facts) form within =
    (sum_within slots others s form.0 within.0, form_within slots others facts form.1 within.1)

-- facts in form in a row with some slots are in form in one with others, if they name no slot beyond these
pub facts_within : (slots others : ℕ) (facts : List LinearView) → AreFacts slots facts → All (HasSlotsBelow others) facts →
    AreFacts others facts
facts_within slots others facts form within =
    form_within slots others facts form (recursion_from_All (HasSlotsBelow others) facts within)

names_within : (slots : ℕ) (facts : List LinearView) → AreFacts slots facts → AllByRecursion (HasSlotsBelow slots) facts
names_within slots [] form = tt
names_within slots (s ∷ facts) form = (form.0.within_shape, names_within slots facts form.1)

pub within_facts : (slots : ℕ) (facts : List LinearView) → AreFacts slots facts → All (HasSlotsBelow slots) facts
within_facts slots facts form = All-from_recursion (HasSlotsBelow slots) facts (names_within slots facts form)
