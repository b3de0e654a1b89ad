use Rattle.std.proofs.Common.{length}
use Rattle.cert_flags.proofs.PartsLemmas.{AreReadingParts}
use Rattle.cert_flags.proofs.parts.parts_field.Given as goal

abbrev pub invariant-loop-text : goal.invariant-loop-text
invariant-loop-text l = AreReadingParts l.slots l.fn.field l.fields l.kept

abbrev pub decreases-loop-text : goal.decreases-loop-text
decreases-loop-text l = length l.fields
