-- The text of a row's shape (docs/CERTIFICATE.md, "Rows").
use Rattle.std.specs.Prelude.{ℕ, ◌<◌, ◌≤◌, ◌≡◌, ◌≢◌, List, length, map, Option, Some, None}
use Rattle.std.specs.List.{AllByRecursion}
use Rattle.cert_fields.specs.Facts.{list_text}
use Rattle.cert_fields.specs.Pair.{IsPair, pair_text}
use Rattle.cert_fields.specs.declared.counted.Counted.{Counted}
use Rattle.cert_fields.specs.declared.counted.Counted.TheVariants.{Fits, TooMany}
use Rattle.cert_fields.specs.declared.shape.ReadShape.{ReadShape}
use Rattle.stack_shape.specs.declared.slot.Slot.{Slot}

-- the slots, first pushed first, each as its pair
unfoldable pub shape_text : List Slot → List ℕ
shape_text slots = list_text (map (λ slot. pair_text slot.pair) slots)

abbrev pub IsShape : List Slot → Type 0
IsShape slots = AllByRecursion (λ slot. IsPair slot.pair) slots

-- at most 64 slots
abbrev pub IsShortShape : List Slot → Type 0
IsShortShape slots = length slots ≤ 64

-- a shape with this many slots was read; if there are more than 64, it is not kept
abbrev pub ReadsSlots : List ℕ → ℕ → Counted (List Slot) → Type 0
ReadsSlots seen count (Fits slots) =
    IsShape slots × (length slots ≤ 64) × (count ≡ length slots) × (seen ≡ shape_text slots)
ReadsSlots seen count TooMany =
    (slots : List Slot) × IsShape slots × (64 < length slots) × (count ≡ length slots) × (seen ≡ shape_text slots)

-- the answer of the reader of a shape: the shape and the number of its slots, which may be more than 64
abbrev pub ReadsShape : List ℕ → Option ReadShape → Type 0
ReadsShape seen (Some read) = ReadsSlots seen read.count read.shape
ReadsShape seen None = (slots : List Slot) → IsShape slots → seen ≢ shape_text slots
