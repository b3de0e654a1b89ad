use Rattle.std.proofs.Common.{refl}
use Rattle.std.proofs.lemmas.Result.{err_from_is_err_and}
use Rattle.cert_lines.specs.declared.line.Line.TheVariants as lines
use Rattle.cert_contents.proofs.PartsLemmas.{stops_in}
use Rattle.cert_contents.proofs.reader.Reader.take_procs.Goals as goal

pub returns-in_err-take : goal.returns-in_err-take
returns-in_err-take c =
    let p = err_from_is_err_and c.from_residual.result c.from_residual.ensures.1 in
    let so_far = c.loop-proc.invariant in
    rw (p.1, p.2)
    (stops_in lines.Proc (Unit {0}) c.args.procs.now c.loop-proc.proc-index _ _ c.args.self.now c.loop-proc.self c.take.new.self
    c.in_err-take.field-0.0 c.loop-proc-test.true refl so_far.read so_far.form c.in_err-take.ensures.line)
