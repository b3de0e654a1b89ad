use Rattle.std.proofs.Common.{arith, length, refl, subst, ◌∙◌}
use Rattle.std.specs.List.{flat_map}
use Rattle.std.proofs.lemmas.List.{take_all}
use Rattle.std.proofs.lemmas.Option.{slice_get_read}
use Rattle.std.proofs.lemmas.Result.{err_from_is_err_and}
use Rattle.texts.specs.Device.{Takes}
use Rattle.certificate.proofs.WritingLemmas.{fails_at, takes_more, takes_none}
use Rattle.certificate.proofs.writing.write_each.Goals as goal

pub loop-item-init : goal.loop-item-init
loop-item-init g c = λ text gives. takes_none (g.W.Sink.state c.args.out.now)

pub returns-in_err-put : goal.returns-in_err-put
returns-in_err-put g c = λ text gives.
    let p = err_from_is_err_and c.from_residual.result c.from_residual.ensures.1 in
    let items = c.args.items.now in
    let at = slice_get_read items (length items) c.loop-item.item-index c.item-item.result refl (omega arith) c.item-item.is in
    rw p.1
    (fails_at text items c.loop-item.item-index c.item-item.result _ _ _ _ at (c.bytes.ensures.value ∙ gives _ _ c.line_of.ensures)
    (c.loop-item.invariant text gives) c.in_err-put.ensures)

pub loop-item-preserved : goal.loop-item-preserved
loop-item-preserved g c = λ text gives.
    let items = c.args.items.now in
    let at = slice_get_read items (length items) c.loop-item.item-index c.item-item.result refl (omega arith) c.item-item.is in
    takes_more text items c.loop-item.item-index c.item-item.result _ _ _ _ at (c.bytes.ensures.value ∙ gives _ _ c.line_of.ensures)
    (c.loop-item.invariant text gives) c.in_ok-put.ensures

pub returns : goal.returns
returns g c = λ text gives.
    let items = c.args.items.now in
    subst (λ xs. Takes (g.W.Sink.state c.args.out.now) (flat_map text xs) (g.W.Sink.state c.loop-item.out))
    (take_all c.loop-item.item-index items (omega arith)) (c.loop-item.invariant text gives)
