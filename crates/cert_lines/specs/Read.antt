-- What the readers of lines and rows give.
use Rattle.std.specs.Prelude.{ℕ, ◌<◌, ◌≡◌, ◌≢◌, List, ◌++◌, length, Option, Some, None}
use Rattle.abs_state.specs.declared.pairs.Pairs.{Pairs}
use Rattle.cert_lines.specs.Line.{IsLine, IsShortLine, fields_of}
use Rattle.cert_lines.specs.Version.{flag_form}
use Rattle.cert_lines.specs.Row.{Last, last_texts, IsRow, IsShortRow, fields_of_row, place_of}
use Rattle.cert_lines.specs.declared.line.Line.{Line}
use Rattle.cert_lines.specs.declared.line.Line.TheVariants as lines
use Rattle.cert_lines.specs.declared.reading.ReadLine.{ReadLine}
use Rattle.cert_lines.specs.declared.reading.ReadLine.TheVariants.{Whole, Crowded}
use Rattle.cert_lines.specs.declared.row_reading.ReadLast.{ReadLast}
use Rattle.cert_lines.specs.declared.row_reading.ReadRow.{ReadRow}
use Rattle.cert_fields.specs.Facts.{AreFacts, AreFewFacts}
use Rattle.cert_flags.specs.Flags.{AreFewFlags, AreFlags}
use Rattle.cert_fields.specs.Linear.{IsPotential, IsShortPotential}
use Rattle.cert_fields.specs.Shape.{IsShape, IsShortShape}
use Rattle.cert_fields.specs.declared.counted.Counted.{Counted}
use Rattle.cert_fields.specs.declared.counted.Counted.TheVariants.{Fits, TooMany}
use Rattle.cert_lines.specs.declared.row_reading.ReadRow.TheVariants as rows
use Rattle.cert_lines.specs.declared.row.RowPlace.{RowPlace}
use Rattle.cert_lines.specs.declared.row.Row.{Row}
use Rattle.cert_lines.specs.declared.version.Version.{Version}

-- the next fields were read: they are those of this value, or of no value in form
abbrev pub TakesFields : {X F : Type 0} → (X → List F) → (X → Type 0) → List F → Option X → List F → Type 0
TakesFields fields InForm old (Some x) new = InForm x × (old ≡ fields x ++ new)
TakesFields {X} {F} fields InForm old None new = (x : X) (rest : List F) → InForm x → old ≢ fields x ++ rest

-- the last fields of a row in form
pub record IsLast (version : Version) (last : Last) : Type 0 where
  pub flags : AreFlags (flag_form version) (length last.shape) last.flags
  pub facts : AreFacts (length last.shape) last.facts
  pub shape : IsShape last.shape
  pub slots : length last.shape < 1048576
  pub potential : IsPotential (length last.shape) last.potential

-- what is kept of a value with counts: the value, or that a count is above its limit
abbrev pub TellsCounted : {X : Type 0} → (X → Type 0) → X → Counted X → Type 0
TellsCounted Few x (Fits y) = (x ≡ y) × Few y
TellsCounted Few x TooMany = Few x → ⊥

-- what is kept of the last fields
pub record TellsLast (last : Last) (read : ReadLast) : Type 0 where
  pub flags : TellsCounted AreFewFlags last.flags read.flags
  pub count : read.count ≡ length last.shape
  pub shape : TellsCounted IsShortShape last.shape read.shape
  pub facts : TellsCounted AreFewFacts last.facts read.facts
  pub potential : TellsCounted IsShortPotential last.potential read.potential

abbrev pub ReadsLast : Version → List (List ℕ) → Option ReadLast → Type 0
ReadsLast version seen (Some read) =
    (last : Last) × IsLast version last × TellsLast last read × (seen ≡ last_texts version last)
ReadsLast version seen None = (last : Last) → IsLast version last → seen ≢ last_texts version last

-- the answer to the fields after `row`: the row; or the place of a row that is out of form only because it has too many
-- slots, flag parts, facts or terms; or None, and the fields are those of no row in form
abbrev pub ReadsRow : Version → List (List ℕ) → Option ReadRow → Type 0
ReadsRow version seen (Some (rows.Whole row)) = IsRow version row × IsShortRow row × (seen ≡ fields_of_row version row)
ReadsRow version seen (Some (rows.Crowded place)) =
    (row : Row) × IsRow version row × (IsShortRow row → ⊥) × (place ≡ place_of row) × (seen ≡ fields_of_row version row)
ReadsRow version seen None = (row : Row) → IsRow version row → seen ≢ fields_of_row version row

-- the answer to the fields of a line, in the same way
abbrev pub ReadsLine : Version → List (List ℕ) → Option ReadLine → Type 0
ReadsLine version seen (Some (Whole line)) = IsLine version line × IsShortLine line × (seen ≡ fields_of version line)
ReadsLine version seen (Some (Crowded place)) =
    (row : Row) × IsRow version row × (IsShortRow row → ⊥) × (place ≡ place_of row) × (seen ≡ fields_of version (lines.Row row))
ReadsLine version seen None = (line : Line) → IsLine version line → seen ≢ fields_of version line

-- a row with this place and these pairs
abbrev pub row_with : RowPlace → Pairs → Last → Row
row_with place pairs last = record {
  proc = place.proc;
  address = place.address;
  state = record { mode = place.mode; armed = place.armed; pairs = pairs; flag = last.flags.fact; shape = last.shape };
  parts = last.flags.parts;
  facts = last.facts;
  potential = last.potential;
}

-- the row itself, or its place if a count is above its limit
abbrev pub MakesRowOf : Row → ReadRow → Type 0
MakesRowOf row (rows.Whole made) = (made ≡ row) × IsShortRow row
MakesRowOf row (rows.Crowded place) = (place ≡ place_of row) × (IsShortRow row → ⊥)

-- the row of what was read, or its place if something is too many
abbrev pub MakesRow : RowPlace → Pairs → ReadLast → ReadRow → Type 0
MakesRow place pairs read made = (last : Last) → TellsLast last read → MakesRowOf (row_with place pairs last) made
