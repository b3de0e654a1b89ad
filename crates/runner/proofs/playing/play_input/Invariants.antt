use Rattle.std.proofs.Common.{◌≡◌, ◌≤◌, ◌+◌, ◌*◌, ℕ, List, IsSome}
use Rattle.cert_checker.specs.Certified.{hardware_on}
use Rattle.texts.specs.Device.{CountsNoFailure, Takes}
use Rattle.texts.specs.Incoming.{EndsWell, unread_of}
use Rattle.runner.proofs.PlayLemmas.{Sofar}
use Rattle.runner.proofs.playing.play_input.Given as goal

-- the lines so far were played, each for at least one event, their output was written, and no read has failed yet
abbrev pub invariant-loop-left : goal.invariant-loop-left
invariant-loop-left g l = record {
  told : List ℕ;
  far : Sofar (hardware_on l.fn.accepted) l.fn.steps (g.R.Source.state l.fn.input).bytes (unread_of l.incoming (g.R.Source.state l.input)).bytes l.number l.left l.player told;
  wrote : Takes (g.W.Sink.state l.fn.out) told (g.W.Sink.state l.out);
  certified : l.player.machine.certified ≡ l.fn.accepted;
  at_end : IsSome (g.R.Source.state l.fn.input).bytes → EndsWell l.incoming (g.R.Source.state l.input);
  quiet : CountsNoFailure (g.R.Source.state l.fn.input) (g.R.Source.state l.input);
  numbered : l.number + l.left ≤ l.fn.steps + 1;
  bounded : l.player.teller.time ≤ 255 * l.player.teller.events;
}

abbrev pub decreases-loop-left : goal.decreases-loop-left
decreases-loop-left g l = l.left
