use Rattle.std.proofs.Common.{◌≡◌, ◌++◌, ℕ, List, length}
use Rattle.texts.specs.Device.{Takes}
use Rattle.texts.proofs.device.put.Given as goal

-- what was written and the rest are all the bytes
abbrev pub invariant-loop-rest : goal.invariant-loop-rest
invariant-loop-rest g l = record {
  done : List ℕ;
  parts : l.bytes ≡ done ++ l.rest;
  taken : Takes (g.W.Sink.state l.fn.out) done (g.W.Sink.state l.out);
}

abbrev pub decreases-loop-rest : goal.decreases-loop-rest
decreases-loop-rest g l = length l.rest
