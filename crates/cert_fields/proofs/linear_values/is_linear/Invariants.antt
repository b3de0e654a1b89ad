use Rattle.std.proofs.Common.{All, take}
use Rattle.cert_fields.specs.Linear.{IsBelow}
use Rattle.cert_fields.proofs.linear_values.is_linear.Given as goal

abbrev pub invariant-loop-term : goal.invariant-loop-term
invariant-loop-term l = All (λ t. IsBelow 64 t.variable) (take l.term-index l.term-items)
