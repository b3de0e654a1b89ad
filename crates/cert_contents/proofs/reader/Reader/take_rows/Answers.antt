use Rattle.std.proofs.Common.{ap, ◌∙◌, ◌++◌}
use Rattle.std.proofs.lemmas.Result.{err_from_is_err_and}
use Rattle.cert_lines.specs.declared.line.Line.TheVariants as lines
use Rattle.cert_contents.proofs.PartsLemmas.{stops_behind}
use Rattle.cert_contents.proofs.reader.Reader.take_rows.Goals as goal

pub returns-in_err-take : goal.returns-in_err-take
returns-in_err-take c =
    let p = err_from_is_err_and c.from_residual.result c.from_residual.ensures.1 in
    let so_far = c.loop-row.invariant in
    let parts = so_far.left ∙ ap (λ rows. c.loop-row.yielded ++ rows) c.in-Some.ensures.steps.0 in
    rw (p.1, p.2)
    (stops_behind lines.Row (Unit {0}) c.args.rows.items c.loop-row.yielded c.next.new.self.rest.items c.in-Some.row c.args.self.now
    c.loop-row.self c.take.new.self c.in_err-take.field-0.0 parts so_far.read so_far.form
    c.in_err-take.ensures.line)
