use Rattle.std.proofs.Common.{arith, refl}
use Rattle.std.proofs.lemmas.Option.{slice_get-get_or}
use Rattle.std.proofs.lemmas.Result.{err_from_is_err_and}
use Rattle.html.specs.Markup.{attribute_text}
use Rattle.html.proofs.PutLemmas.{fails_at}
use Rattle.html.proofs.tags.write_attributes.Goals as goal

pub returns-in_err-write_attribute : goal.returns-in_err-write_attribute
returns-in_err-write_attribute g c =
    let p = err_from_is_err_and c.from_residual.result c.from_residual.ensures.1 in
    let attributes = c.args.attributes.now in
    let index = c.loop-attribute.attribute-index in
    rw p.1
    (fails_at attribute_text attributes index _ _ _ _ _ (slice_get-get_or attributes index _ (omega arith)) refl
    c.loop-attribute.invariant c.in_err-write_attribute.ensures)
