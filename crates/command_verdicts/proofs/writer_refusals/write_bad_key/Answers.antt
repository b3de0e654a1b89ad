use Rattle.std.proofs.Common.{◌++◌}
use Rattle.std.specs.Prelude.{codes}
use Rattle.std.proofs.lemmas.Result.{err_from_is_err_and}
use Rattle.certificate.proofs.WritingLemmas.{fails_before, fails_behind, puts_behind}
use Rattle.command_verdicts.specs.WriterRefusals.{escaped}
use Rattle.command_verdicts.proofs.writer_refusals.write_bad_key.Goals as goal

pub returns-in_err-put : goal.returns-in_err-put
returns-in_err-put g c =
    let p = err_from_is_err_and c.from_residual.result c.from_residual.ensures.1 in
    rw p.1 (fails_before _ _ (codes "bad annotation ") (escaped c.args.key.now ++ codes "\n") c.in_err-put.ensures)

pub returns-in_err-write_escaped : goal.returns-in_err-write_escaped
returns-in_err-write_escaped g c =
    let p = err_from_is_err_and c.from_residual-in_err-write_escaped.result c.from_residual-in_err-write_escaped.ensures.1 in
    rw p.1
    (fails_behind _ _ _ (codes "bad annotation ") _ c.in_ok-put.ensures
    (fails_before _ _ (escaped c.args.key.now) (codes "\n") c.in_err-write_escaped.ensures))

pub returns : goal.returns
returns g c =
    puts_behind _ _ _ (codes "bad annotation ") _ c.put-2.result c.in_ok-put.ensures
    (puts_behind _ _ _ (escaped c.args.key.now) (codes "\n") c.put-2.result c.in_ok-write_escaped.ensures c.put-2.ensures)
