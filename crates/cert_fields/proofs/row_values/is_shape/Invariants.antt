use Rattle.std.proofs.Common.{All, take}
use Rattle.cert_fields.specs.Pair.{IsPair}
use Rattle.cert_fields.proofs.row_values.is_shape.Given as goal

abbrev pub invariant-loop-slot : goal.invariant-loop-slot
invariant-loop-slot l = All (λ slot. IsPair slot.pair) (take l.slot-index l.slot-items)
