use Rattle.cert_fields.proofs.SpellingLemmas.{spelled_more}
use Rattle.cert_fields.proofs.ShapeLemmas.{slot_text}
use Rattle.cert_fields.proofs.list_spelling.add_shape.Goals as goal

pub loop-slot-preserved : goal.loop-slot-preserved
loop-slot-preserved c =
    spelled_more slot_text 25 c.args.line.now c.args.shape.now c.in-Some.others.now c.loop-slot.line c.loop-slot.slot-index c.loop-slot.invariant c.slot-item.result _ _
    c.loop-slot-test.true c.slot-item.is c.add_byte-in-loop-slot.ensures.value c.add_pair-in-loop-slot.ensures.value c.add_byte-in-loop-slot.ensures.grown c.add_pair-in-loop-slot.ensures.grown
