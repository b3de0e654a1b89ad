use Rattle.std.proofs.Common.{◌++◌}
use Rattle.std.specs.Prelude.{codes}
use Rattle.std.proofs.lemmas.Result.{err_from_is_err_and}
use Rattle.html.proofs.PutLemmas.{fails_before, fails_behind, puts_behind}
use Rattle.html.proofs.tags.close_tag.Goals as goal

pub returns-in_err-put : goal.returns-in_err-put
returns-in_err-put g c =
    let p = err_from_is_err_and c.from_residual.result c.from_residual.ensures.1 in
    rw p.1 (fails_before _ _ (codes "</") (c.args.element.now ++ codes ">") c.in_err-put.ensures)

pub returns-in_err-put_name : goal.returns-in_err-put_name
returns-in_err-put_name g c =
    let p = err_from_is_err_and c.from_residual-in_err-put_name.result c.from_residual-in_err-put_name.ensures.1 in
    rw p.1
    (fails_behind _ _ _ (codes "</") _ c.in_ok-put.ensures
    (fails_before _ _ c.args.element.now (codes ">") c.in_err-put_name.ensures))

pub returns : goal.returns
returns g c =
    puts_behind _ _ _ (codes "</") _ c.put-2.result c.in_ok-put.ensures
    (puts_behind _ _ _ c.args.element.now (codes ">") c.put-2.result c.in_ok-put_name.ensures c.put-2.ensures)
