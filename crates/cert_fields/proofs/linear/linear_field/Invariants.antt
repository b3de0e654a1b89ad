use Rattle.std.proofs.Common.{length}
use Rattle.cert_fields.proofs.LinearLemmas.{IsReading}
use Rattle.cert_fields.proofs.linear.linear_field.Given as goal

abbrev pub invariant-loop-rest : goal.invariant-loop-rest
invariant-loop-rest l = IsReading l.slots l.field l.rest l.so_far

abbrev pub decreases-loop-rest : goal.decreases-loop-rest
decreases-loop-rest l = length l.rest
