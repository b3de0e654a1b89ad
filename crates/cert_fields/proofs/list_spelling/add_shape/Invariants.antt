use Rattle.cert_fields.proofs.ShapeLemmas.{slot_text}
use Rattle.cert_fields.proofs.SpellingLemmas.{IsSpelled}
use Rattle.cert_fields.proofs.list_spelling.add_shape.Given as goal

abbrev pub invariant-loop-slot : goal.invariant-loop-slot
invariant-loop-slot l = IsSpelled slot_text 25 l.fn.line l.line l.shape l.others l.slot-index
