use Rattle.std.proofs.lemmas.Result.{err_from_is_err_and}
use Rattle.certificate.proofs.WritingLemmas.{lines_fail, lines_then, lines_then_fail}
use Rattle.certificate.proofs.writing.write_lists.Goals as goal

pub returns-in_err-write_procs : goal.returns-in_err-write_procs
returns-in_err-write_procs g c =
    let p = err_from_is_err_and c.from_residual.result c.from_residual.ensures.1 in
    rw p.1 (lines_fail _ _ _ _ _ c.in_err-write_procs.ensures)

pub returns-in_err-write_splits : goal.returns-in_err-write_splits
returns-in_err-write_splits g c =
    let p = err_from_is_err_and c.from_residual-in_err-write_splits.result c.from_residual-in_err-write_splits.ensures.1 in
    rw p.1
    (lines_then_fail _ _ _ _ _ _ c.in_ok-write_procs.ensures
    (lines_fail _ _ _ _ _ c.in_err-write_splits.ensures))

pub returns-in_err-write_inlines : goal.returns-in_err-write_inlines
returns-in_err-write_inlines g c =
    let p = err_from_is_err_and c.from_residual-in_err-write_inlines.result c.from_residual-in_err-write_inlines.ensures.1 in
    rw p.1
    (lines_then_fail _ _ _ _ _ _ c.in_ok-write_procs.ensures
    (lines_then_fail _ _ _ _ _ _ c.in_ok-write_splits.ensures
    (lines_fail _ _ _ _ _ c.in_err-write_inlines.ensures)))

pub returns-in_err-write_cells : goal.returns-in_err-write_cells
returns-in_err-write_cells g c =
    let p = err_from_is_err_and c.from_residual-in_err-write_cells.result c.from_residual-in_err-write_cells.ensures.1 in
    rw p.1
    (lines_then_fail _ _ _ _ _ _ c.in_ok-write_procs.ensures
    (lines_then_fail _ _ _ _ _ _ c.in_ok-write_splits.ensures
    (lines_then_fail _ _ _ _ _ _ c.in_ok-write_inlines.ensures
    (lines_fail _ _ _ _ _ c.in_err-write_cells.ensures))))

pub returns : goal.returns
returns g c =
    lines_then _ _ _ _ _ _ _ c.in_ok-write_procs.ensures
    (lines_then _ _ _ _ _ _ _ c.in_ok-write_splits.ensures
    (lines_then _ _ _ _ _ _ _ c.in_ok-write_inlines.ensures
    (lines_then _ _ _ _ _ _ _ c.in_ok-write_cells.ensures c.write_rows.ensures)))
