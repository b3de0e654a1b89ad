use Rattle.std.proofs.Common.{refl}
use Rattle.std.proofs.lemmas.Result.{err_from_is_err_and}
use Rattle.cert_lines.specs.declared.line.Line.TheVariants as lines
use Rattle.cert_contents.proofs.PartsLemmas.{stops_in}
use Rattle.cert_contents.proofs.reader.Reader.take_inlines.Goals as goal

pub returns-in_err-take : goal.returns-in_err-take
returns-in_err-take c =
    let p = err_from_is_err_and c.from_residual.result c.from_residual.ensures.1 in
    let so_far = c.loop-inline.invariant in
    rw (p.1, p.2)
    (stops_in lines.Inline (Unit {0}) c.args.inlines.now c.loop-inline.inline-index _ _ c.args.self.now c.loop-inline.self c.take.new.self
    c.in_err-take.field-0.0 c.loop-inline-test.true refl so_far.read so_far.form c.in_err-take.ensures.line)
