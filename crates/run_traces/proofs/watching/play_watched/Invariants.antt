use Rattle.texts.specs.Device.{CountsNoFailure}
use Rattle.run_traces.proofs.watching.play_watched.Given as goal

-- neither device failed so far
abbrev pub invariant-loop-number : goal.invariant-loop-number
invariant-loop-number g l = CountsNoFailure (g.C.Source.state l.fn.input) (g.C.Source.state l.input) × CountsNoFailure (g.W.Sink.state l.fn.out) (g.W.Sink.state l.out)
