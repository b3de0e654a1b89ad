use Rattle.std.proofs.Common.{length}
use Rattle.cert_form.proofs.Texts.{Stands}
use Rattle.certificate.proofs.reading.read.Given as goal

-- the bytes are the text of the lines that were read, and the rest
abbrev pub invariant-loop-line : goal.invariant-loop-line
invariant-loop-line l = Stands l.bytes l.reader l.rest

abbrev pub decreases-loop-line : goal.decreases-loop-line
decreases-loop-line l = length l.rest
