-- The text of a row's facts (docs/CERTIFICATE.md, "Linears").
use Rattle.std.specs.Prelude.{ℕ, ◌≡◌, ◌≤◌, ◌-◌, ◌++◌, pos, replicate, take, List, [], ◌∷◌, length, map, codes}
use Rattle.std.specs.List.{AllByRecursion, join_with_byte}
use Rattle.loop_bounds.specs.Linear.{LinearView}
use Rattle.cert_fields.specs.Linear.{IsSum, IsShort, linear_text}

-- the texts with commas between them; a dash if there are none
abbrev pub list_text : List (List ℕ) → List ℕ
list_text [] = codes "-"
list_text (first ∷ others) = join_with_byte 44 (first ∷ others)

-- the facts of a row: linears that are 0
unfoldable pub facts_text : List LinearView → List ℕ
facts_text facts = list_text (map linear_text facts)

-- each of them may be in a row with this many slots
abbrev pub AreFacts : ℕ → List LinearView → Type 0
AreFacts slots facts = AllByRecursion (IsSum slots) facts

-- at most four facts, each within its limits
pub record AreFewFacts (facts : List LinearView) : Type 0 where
  pub count : length facts ≤ 4
  pub short : AllByRecursion IsShort facts

-- the fact in the unused places of the four
abbrev pub padding_fact : LinearView
padding_fact = record { constant = pos 0; terms = [] }

-- the four places for facts
abbrev pub padded_facts : List LinearView → List LinearView
padded_facts facts = facts ++ replicate (4 - length facts) padding_fact

-- the facts are in the first of four places, and the padding is in the others
pub record AreStored (facts : List LinearView) (count : ℕ) : Type 0 where
  pub rest : facts ≡ padded_facts (take count facts)
  pub within : count ≤ 4
