use Rattle.texts.specs.Device.{CountsNoFailure}
use Rattle.view_commands.proofs.documents.write_document.Given as goal

-- the sink did not fail so far
abbrev pub invariant-loop-number : goal.invariant-loop-number
invariant-loop-number g l = CountsNoFailure (g.W.Sink.state l.fn.out) (g.W.Sink.state l.out)
