use Rattle.std.proofs.Common.{length}
use Rattle.cert_fields.proofs.FactsLemmas.{AreReading}
use Rattle.cert_fields.proofs.facts.facts_field.Given as goal

abbrev pub invariant-loop-part : goal.invariant-loop-part
invariant-loop-part l = AreReading l.slots l.fn.field l.fields l.kept

abbrev pub decreases-loop-part : goal.decreases-loop-part
decreases-loop-part l = length l.fields
