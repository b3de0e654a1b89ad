use Rattle.std.proofs.Common.{length}
use Rattle.cert_fields.proofs.ShapeLemmas.{IsReadingShape}
use Rattle.cert_fields.proofs.shape.shape_field.Given as goal

abbrev pub invariant-loop-part : goal.invariant-loop-part
invariant-loop-part l = IsReadingShape l.fn.field l.fields l.shape l.count

abbrev pub decreases-loop-part : goal.decreases-loop-part
decreases-loop-part l = length l.fields
