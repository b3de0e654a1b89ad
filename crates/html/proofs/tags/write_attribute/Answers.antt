use Rattle.std.proofs.Common.{◌++◌}
use Rattle.std.specs.Prelude.{codes}
use Rattle.std.proofs.lemmas.Result.{err_from_is_err_and}
use Rattle.html.specs.Markup.{html_text}
use Rattle.html.proofs.PutLemmas.{fails_before, fails_behind, puts_behind}
use Rattle.html.proofs.tags.write_attribute.Goals as goal

pub returns-in_err-put : goal.returns-in_err-put
returns-in_err-put g c =
    let p = err_from_is_err_and c.from_residual.result c.from_residual.ensures.1 in
    rw p.1 (fails_before _ _ (codes " ") (c.args.attribute.now.name.now ++ (codes "=\"" ++ (html_text c.args.attribute.now.value.now ++ codes "\""))) c.in_err-put.ensures)

pub returns-in_err-put_name : goal.returns-in_err-put_name
returns-in_err-put_name g c =
    let p = err_from_is_err_and c.from_residual-in_err-put_name.result c.from_residual-in_err-put_name.ensures.1 in
    rw p.1
    (fails_behind _ _ _ (codes " ") _ c.in_ok-put.ensures
    (fails_before _ _ c.args.attribute.now.name.now (codes "=\"" ++ (html_text c.args.attribute.now.value.now ++ codes "\"")) c.in_err-put_name.ensures))

pub returns-in_err-put-2 : goal.returns-in_err-put-2
returns-in_err-put-2 g c =
    let p = err_from_is_err_and c.from_residual-in_err-put-2.result c.from_residual-in_err-put-2.ensures.1 in
    rw p.1
    (fails_behind _ _ _ (codes " ") _ c.in_ok-put.ensures
    (fails_behind _ _ _ c.args.attribute.now.name.now _ c.in_ok-put_name.ensures
    (fails_before _ _ (codes "=\"") (html_text c.args.attribute.now.value.now ++ codes "\"") c.in_err-put-2.ensures)))

pub returns-in_err-write_text : goal.returns-in_err-write_text
returns-in_err-write_text g c =
    let p = err_from_is_err_and c.from_residual-in_err-write_text.result c.from_residual-in_err-write_text.ensures.1 in
    rw p.1
    (fails_behind _ _ _ (codes " ") _ c.in_ok-put.ensures
    (fails_behind _ _ _ c.args.attribute.now.name.now _ c.in_ok-put_name.ensures
    (fails_behind _ _ _ (codes "=\"") _ c.in_ok-put-2.ensures
    (fails_before _ _ (html_text c.args.attribute.now.value.now) (codes "\"") c.in_err-write_text.ensures))))

pub returns : goal.returns
returns g c =
    puts_behind _ _ _ (codes " ") _ c.put-3.result c.in_ok-put.ensures
    (puts_behind _ _ _ c.args.attribute.now.name.now _ c.put-3.result c.in_ok-put_name.ensures
    (puts_behind _ _ _ (codes "=\"") _ c.put-3.result c.in_ok-put-2.ensures
    (puts_behind _ _ _ (html_text c.args.attribute.now.value.now) (codes "\"") c.put-3.result c.in_ok-write_text.ensures c.put-3.ensures)))
