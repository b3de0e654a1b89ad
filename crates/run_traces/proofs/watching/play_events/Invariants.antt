use Rattle.texts.specs.Device.{CountsNoFailure}
use Rattle.run_traces.proofs.watching.play_events.Given as goal

-- the sink did not fail so far
abbrev pub invariant-loop : goal.invariant-loop
invariant-loop g l = CountsNoFailure (g.W.Sink.state l.fn.out) (g.W.Sink.state l.out)
