use Rattle.std.proofs.Common.{ℕ, ◌<◌, get_or}
use Rattle.abs_state.specs.declared.state.AbsState.{AbsState}
use Rattle.flag_letters.specs.declared.part.FlagPart.{FlagPart}
use Rattle.check_claims.specs.Claims.{IsClaimedPart}
use Rattle.check_claims.proofs.source.StepSource.tells_parts.Given as goal

-- those so far are known to hold, whatever the state after the step
abbrev pub invariant-loop-part : goal.invariant-loop-part
invariant-loop-part l = (after : AbsState) (k : ℕ) (d : FlagPart) → k < l.part-index → IsClaimedPart l.self after (get_or l.parts k d)
