-- Rows whose shapes and flag parts are stored by number, and a row with another potential.
use Rattle.std.specs.Prelude.{◌≡◌, ℕ, zero, suc, ◌<◌, ◌≤◌, List, [], ◌∷◌, Some, length, slice_get, slice_index_or}
use Rattle.std.specs.List.{AllByRecursion}
use Rattle.cert_lines.specs.declared.row.Row.{Row}
use Rattle.cert_form.specs.declared.rows.NumberedRow.{NumberedRow}
use Rattle.loop_bounds.specs.Linear.{LinearView}
use Rattle.flag_letters.specs.declared.part.FlagPart.{FlagPart}
use Rattle.stack_shape.specs.declared.slot.Slot.{Slot}

-- a row with this shape and these flag parts in place of their numbers
abbrev pub told_row : NumberedRow → List Slot → List FlagPart → Row
told_row row shape parts = record {
  proc = row.proc;
  address = row.address;
  state = record { mode = row.mode; armed = row.armed; pairs = row.pairs; flag = row.flag; shape = shape };
  parts = parts;
  facts = row.facts;
  potential = row.potential;
}

-- a row with the shape and the flag parts that have its numbers
abbrev pub as_told : List (List Slot) → List (List FlagPart) → NumberedRow → Row
as_told shapes parts row = told_row row (slice_index_or shapes row.shape []) (slice_index_or parts row.parts [])

-- a row has the number of a shape and that of flag parts
abbrev pub HasNumbers : List (List Slot) → List (List FlagPart) → NumberedRow → Type 0
HasNumbers shapes parts row = (row.shape < length shapes) × (row.parts < length parts)

abbrev pub HaveNumbers : List (List Slot) → List (List FlagPart) → List NumberedRow → Type 0
HaveNumbers shapes parts rows = AllByRecursion (HasNumbers shapes parts) rows

-- what is in a list stays there, with its number
pub record KeepsNumbers {X : Type 0} (old new : List X) : Type 0 where
  pub longer : length old ≤ length new
  pub kept : (n : ℕ) → n < length old → slice_get new n ≡ slice_get old n

-- a list in which the element with this number, if there is one, is changed
abbrev pub changed_at : {X : Type 0} → (X → X) → ℕ → List X → List X
changed_at change number [] = []
changed_at change zero (x ∷ xs) = change x ∷ xs
changed_at change (suc number) (x ∷ xs) = x ∷ changed_at change number xs

-- a row with this potential
abbrev pub with_potential : LinearView → Row → Row
with_potential potential row = record row { potential = Some potential }
