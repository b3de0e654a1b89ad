use Rattle.std.proofs.Common.{◌++◌}
use Rattle.std.specs.Prelude.{codes}
use Rattle.std.specs.List.{flat_map}
use Rattle.std.proofs.lemmas.Result.{err_from_is_err_and}
use Rattle.html.specs.Markup.{attribute_text}
use Rattle.html.proofs.PutLemmas.{fails_before, fails_behind, puts_behind}
use Rattle.html.proofs.tags.open_tag.Goals as goal

pub returns-in_err-put : goal.returns-in_err-put
returns-in_err-put g c =
    let p = err_from_is_err_and c.from_residual.result c.from_residual.ensures.1 in
    rw p.1 (fails_before _ _ (codes "<") (c.args.element.now ++ (flat_map attribute_text c.args.attributes.now ++ codes ">")) c.in_err-put.ensures)

pub returns-in_err-put_name : goal.returns-in_err-put_name
returns-in_err-put_name g c =
    let p = err_from_is_err_and c.from_residual-in_err-put_name.result c.from_residual-in_err-put_name.ensures.1 in
    rw p.1
    (fails_behind _ _ _ (codes "<") _ c.in_ok-put.ensures
    (fails_before _ _ c.args.element.now (flat_map attribute_text c.args.attributes.now ++ codes ">") c.in_err-put_name.ensures))

pub returns-in_err-write_attributes : goal.returns-in_err-write_attributes
returns-in_err-write_attributes g c =
    let p = err_from_is_err_and c.from_residual-in_err-write_attributes.result c.from_residual-in_err-write_attributes.ensures.1 in
    rw p.1
    (fails_behind _ _ _ (codes "<") _ c.in_ok-put.ensures
    (fails_behind _ _ _ c.args.element.now _ c.in_ok-put_name.ensures
    (fails_before _ _ (flat_map attribute_text c.args.attributes.now) (codes ">") c.in_err-write_attributes.ensures)))

pub returns : goal.returns
returns g c =
    puts_behind _ _ _ (codes "<") _ c.put-2.result c.in_ok-put.ensures
    (puts_behind _ _ _ c.args.element.now _ c.put-2.result c.in_ok-put_name.ensures
    (puts_behind _ _ _ (flat_map attribute_text c.args.attributes.now) (codes ">") c.put-2.result c.in_ok-write_attributes.ensures c.put-2.ensures))
