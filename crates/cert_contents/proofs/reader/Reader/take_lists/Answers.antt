use Rattle.std.proofs.lemmas.Result.{err_from_is_err_and}
use Rattle.cert_contents.proofs.PartsLemmas.{stops_before, stops_then, takes_lists}
use Rattle.cert_contents.proofs.reader.Reader.take_lists.Goals as goal

pub returns-in_err-take_procs : goal.returns-in_err-take_procs
returns-in_err-take_procs c =
    let p = err_from_is_err_and c.from_residual.result c.from_residual.ensures.1 in
    rw (p.1, p.2, ← c.parts.view_is, ← c.deref.ensures.value)
    (stops_before _ _ _ _ c.in_err-take_procs.ensures)

pub returns-in_err-take_splits : goal.returns-in_err-take_splits
returns-in_err-take_splits c =
    let p = err_from_is_err_and c.from_residual-in_err-take_splits.result c.from_residual-in_err-take_splits.ensures.1 in
    rw (p.1, p.2, ← c.parts.view_is, ← c.deref.ensures.value, ← c.deref-2.ensures.value)
    (stops_then _ c.take_procs.new.self _ _ _ c.in_ok-take_procs.ensures.0 (stops_before _ _ _ _ c.in_err-take_splits.ensures))

pub returns-in_err-take_inlines : goal.returns-in_err-take_inlines
returns-in_err-take_inlines c =
    let p = err_from_is_err_and c.from_residual-in_err-take_inlines.result c.from_residual-in_err-take_inlines.ensures.1 in
    rw (p.1, p.2, ← c.parts.view_is, ← c.deref.ensures.value, ← c.deref-2.ensures.value, ← c.deref-3.ensures.value)
    (stops_then _ c.take_procs.new.self _ _ _ c.in_ok-take_procs.ensures.0 (stops_then _ c.take_splits.new.self _ _ _ c.in_ok-take_splits.ensures.0 (stops_before _ _ _ _ c.in_err-take_inlines.ensures)))

pub returns-in_err-take_cells : goal.returns-in_err-take_cells
returns-in_err-take_cells c =
    let p = err_from_is_err_and c.from_residual-in_err-take_cells.result c.from_residual-in_err-take_cells.ensures.1 in
    rw (p.1, p.2, ← c.parts.view_is, ← c.deref.ensures.value, ← c.deref-2.ensures.value, ← c.deref-3.ensures.value, ← c.deref-4.ensures.value)
    (stops_then _ c.take_procs.new.self _ _ _ c.in_ok-take_procs.ensures.0 (stops_then _ c.take_splits.new.self _ _ _ c.in_ok-take_splits.ensures.0 (stops_then _ c.take_inlines.new.self _ _ _ c.in_ok-take_inlines.ensures.0 (stops_before _ _ _ _ c.in_err-take_cells.ensures))))

pub returns : goal.returns
returns c =
    rw (← c.parts.view_is, ← c.deref.ensures.value, ← c.deref-2.ensures.value, ← c.deref-3.ensures.value, ← c.deref-4.ensures.value)
    (takes_lists (Unit {0}) c.args.self.now c.take_procs.new.self c.take_splits.new.self c.take_inlines.new.self c.take_cells.new.self
    c.take_rows.new.self _ _ _ _ c.parts.inside.rows.items c.take_rows.result c.in_ok-take_procs.ensures.0 c.in_ok-take_splits.ensures.0
    c.in_ok-take_inlines.ensures.0 c.in_ok-take_cells.ensures.0 c.take_rows.ensures)
