use Rattle.std.proofs.Common.{ℕ, ◌<◌, get_or}
use Rattle.loop_bounds.specs.Linear.{LinearView}
use Rattle.check_cover.specs.Covering.{IsKnownFact}
use Rattle.check_cover.proofs.knowing.are_known.Given as goal

-- the facts so far are known to hold
abbrev pub invariant-loop-fact : goal.invariant-loop-fact
invariant-loop-fact l = (k : ℕ) (fact : LinearView) → k < l.fact-index → IsKnownFact l.facts l.before l.effect (get_or l.asked k fact)
