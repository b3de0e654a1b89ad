use Rattle.std.proofs.lemmas.List.Elements.{recursion_from_All}
use Rattle.cert_fields.specs.Pair.{IsPair}
use Rattle.cert_fields.proofs.ValueLemmas.{all_seen}
use Rattle.cert_fields.proofs.row_values.is_shape.Goals as goal

pub returns-clause-form : goal.returns-clause-form
returns-clause-form c =
    recursion_from_All (λ slot. IsPair slot.pair) c.args.shape.now
    (all_seen (λ slot. IsPair slot.pair) c.slots-slot-items.result.now c.args.shape.now c.loop-slot.slot-index c.slots-slot-items.ensures.value c.loop-slot-test.false c.loop-slot.invariant)
