use Rattle.std.proofs.Common.{ℕ, ◌<◌, get_or}
use Rattle.loop_bounds.specs.Linear.{LinearView}
use Rattle.check_claims.specs.Claims.{IsClaimedFact}
use Rattle.check_claims.proofs.source.StepSource.knows_facts.Given as goal

-- those so far are known to hold
abbrev pub invariant-loop-fact : goal.invariant-loop-fact
invariant-loop-fact l = (k : ℕ) (d : LinearView) → k < l.fact-index → IsClaimedFact l.self (get_or l.facts k d)
