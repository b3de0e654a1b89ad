use Rattle.cert_writer.specs.Same.{SaysTheSame}
use Rattle.cert_writer.proofs.bounding.set_bounds.Given as goal

-- the bounds that were set left the rest as it was
abbrev pub invariant-loop-id : goal.invariant-loop-id
invariant-loop-id l = SaysTheSame l.fn.certificate l.certificate
