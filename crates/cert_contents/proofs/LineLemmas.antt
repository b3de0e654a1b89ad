-- The answer to a line's text, from the answer to the line.
use Rattle.std.proofs.Common.{◌≡◌, ℕ, List, Some, Result, Ok, Err, sym, subst, ◌∙◌}
use Rattle.cert_lines.specs.Line.{IsLine, fields_of}
use Rattle.cert_lines.specs.Read.{ReadsLine}
use Rattle.cert_lines.specs.declared.line.Line.{Line}
use Rattle.cert_lines.specs.declared.line.Line.TheVariants as lines
use Rattle.cert_lines.specs.declared.reading.ReadLine.TheVariants.{Whole, Crowded}
use Rattle.cert_lines.specs.declared.row.RowPlace.{RowPlace}
use Rattle.cert_form.specs.Reader.{ReaderView, IsProgress, MayFollow, MayStandAt, TakesLine, TakesText, TellsCrowded}
use Rattle.cert_form.specs.declared.fault.CertFault.{CertFault}
use Rattle.cert_form.specs.declared.fault.CertFault.TheVariants as faults
use Rattle.cert_form.proofs.Told.{told}
use Rattle.cert_form.proofs.RowPlaces.{row_follows, row_stands}
use Rattle.texts.specs.Fields.{fields_in}

-- two lines with the same fields are equal
same_line : (p : ReaderView) (text : List ℕ) (line other : Line) → IsLine p.contents.version line →
    IsLine p.contents.version other → fields_in text ≡ fields_of p.contents.version line →
    fields_in text ≡ fields_of p.contents.version other → line ≡ other
same_line p text line other form other_form fields others =
    told.injective p.contents.version line other form other_form (sym fields ∙ others)

-- the line of the text was read, or not
pub takes_whole : {T : Type 0} (old new : ReaderView) (text : List ℕ) (line : Line) (result : Result T CertFault) →
    ReadsLine old.contents.version (fields_in text) (Some (Whole line)) → TakesLine old line result new →
    TakesText old text result new
takes_whole old new text line (Ok x) (form, short, fields) takes = (line, form, fields, takes.0, takes.1)
takes_whole old new text line (Err (faults.Line n)) (form, short, fields) takes = (
  takes.0,
  λ other other_form others may.
      takes.1 form (subst (MayFollow old) (same_line old text other line other_form form others fields) may),
)
takes_whole old new text line (Err faults.Limit) (form, short, fields) takes = (line, form, fields, takes.1, takes.2)
takes_whole old new text line (Err faults.NoMemory) (form, short, fields) takes =
    (line, form, fields, takes.1, takes.2, takes.3, takes.4)

-- a row at this place with too many parts was read; a row may be there or not
pub takes_crowded : (T : Type 0) (old new : ReaderView) (text : List ℕ) (place : RowPlace) (fault : CertFault) → IsProgress old →
    ReadsLine old.contents.version (fields_in text) (Some (Crowded place)) → TellsCrowded old place fault →
    TakesText {T = T} old text (Err fault) new
takes_crowded T old new text place (faults.Line n) h (row, form, many, at, fields) tells = (
  tells.0,
  λ other other_form others may.
      let may_row = subst (MayFollow old) (same_line old text other (lines.Row row) other_form form others fields) may in
      tells.1 (subst (MayStandAt old) (sym at) (row_stands old row may_row)),
)
takes_crowded T old new text place faults.Limit h (row, form, many, at, fields) tells =
    (lines.Row row, form, fields, row_follows old row h form (subst (MayStandAt old) at tells), λ short. many short.0)
takes_crowded T old new text place faults.NoMemory h read tells = absurd tells
