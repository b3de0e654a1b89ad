use Rattle.std.proofs.Common.{◌≡◌, drop}
use Rattle.check_cover.specs.Covering.{tightened_by}
use Rattle.check_cover.proofs.knowing.tightened.Given as goal

-- the facts that are left, applied to the current state, give what all facts give from the first state
abbrev pub invariant-loop-fact : goal.invariant-loop-fact
invariant-loop-fact l = tightened_by l.facts l.fn.state ≡ tightened_by (drop l.fact-index l.facts) l.left
