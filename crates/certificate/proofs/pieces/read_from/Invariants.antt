use Rattle.std.proofs.Common.{◌-◌, IsSome, length}
use Rattle.cert_form.specs.Reader.{lines_read}
use Rattle.texts.specs.Incoming.{EndsWell, unread_of}
use Rattle.certificate.proofs.PiecesLemmas.{HasGiven}
use Rattle.certificate.proofs.pieces.read_from.Given as goal

-- the source gave the text of the lines that were read, and no read has failed yet
abbrev pub invariant-loop-reader : goal.invariant-loop-reader
invariant-loop-reader g l = record {
  has : HasGiven (g.R.Source.state l.fn.input) l.reader (unread_of l.incoming (g.R.Source.state l.input));
  at_end : IsSome (g.R.Source.state l.fn.input).bytes → EndsWell l.incoming (g.R.Source.state l.input);
}

abbrev pub decreases-loop-reader : goal.decreases-loop-reader
decreases-loop-reader g l = 70000 - length (lines_read l.reader)
