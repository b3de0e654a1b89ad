use Rattle.std.proofs.Common.{sym}
use Rattle.std.proofs.lemmas.Result.{err_from_is_err_and}
use Rattle.cert_lines.specs.declared.line.Line.TheVariants as lines
use Rattle.cert_contents.proofs.PartsLemmas.{stops_in}
use Rattle.cert_contents.proofs.reader.Reader.take_cells.Goals as goal

pub returns-in_err-take : goal.returns-in_err-take
returns-in_err-take c =
    let p = err_from_is_err_and c.from_residual.result c.from_residual.ensures.1 in
    let so_far = c.loop-cell.invariant in
    rw (p.1, p.2)
    (stops_in lines.Cell (Unit {0}) c.args.cells.now c.loop-cell.cell-index c.cell-item.result c.cell-item.result c.args.self.now c.loop-cell.self c.take.new.self
    c.in_err-take.field-0.0 c.loop-cell-test.true (sym c.cell-item.is) so_far.read so_far.form c.in_err-take.ensures.line)
