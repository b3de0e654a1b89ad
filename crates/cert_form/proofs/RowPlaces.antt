-- A row in form may come next exactly if its place may.
use Rattle.std.proofs.Common.{◌≤◌, ◌∷◌, [], ℕ, length}
use Rattle.cert_lines.specs.Row.{IsRow, place_of}
use Rattle.cert_lines.specs.declared.line.Line.TheVariants as lines
use Rattle.cert_lines.specs.declared.row.Row.{Row}
use Rattle.cert_form.specs.Form.{IsRowOf, place_number}
use Rattle.cert_form.specs.Reader.{ReaderView, IsProgress, MayFollow, MayStandAt}
use Rattle.cert_form.proofs.Lists.{all_at, all_push}
use Rattle.cert_form.proofs.LastLemmas.{follow_all, get_in_front, none_above}

abbrev pub row_place_number : Row → ℕ
row_place_number row = place_number row.proc row.address

-- a row of one of the procedures that were read, with cells that were read
abbrev IsRowBehind : ReaderView → Row → Type 0
IsRowBehind p row = IsRowOf p.contents.version (length p.contents.procs) (length p.contents.cells) row

-- a row in form may come next if its place may
pub row_follows : (p : ReaderView) (row : Row) → IsProgress p → IsRow p.contents.version row → MayStandAt p (place_of row) →
    MayFollow p (lines.Row row)
row_follows p row h form may = (
  may.stage,
  record {
    each = all_push (IsRowBehind p) p.contents.rows row h.rows.each
        record { form = form; proc = may.proc; armed = may.armed };
    rising = follow_all (λ a b. row_place_number a ≤ row_place_number b) p.contents.rows row h.rows.rising may.above;
  },
)

-- the place of a row that may come next may
pub row_stands : (p : ReaderView) (row : Row) → MayFollow p (lines.Row row) → MayStandAt p (place_of row)
row_stands p row may =
    let rows = p.contents.rows in
    let is = all_at (IsRowBehind p) rows row [] may.1.each in
    record {
      stage = may.0;
      proc = is.proc;
      armed = is.armed;
      above = λ i other at.
          none_above row_place_number rows row may.1.rising i other (get_in_front rows (row ∷ []) i other at);
    }
