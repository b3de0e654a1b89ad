use Rattle.std.proofs.Common.{ℕ, ◌<◌, get_or}
use Rattle.flag_letters.specs.declared.part.FlagPart.{FlagPart}
use Rattle.check_claims.specs.Claims.{IsClaimedPart}
use Rattle.check_claims.proofs.source.StepSource.knows_parts.Given as goal

-- those so far are known to hold
abbrev pub invariant-loop-part : goal.invariant-loop-part
invariant-loop-part l = (k : ℕ) (d : FlagPart) → k < l.part-index → IsClaimedPart l.self l.after (get_or l.parts k d)
