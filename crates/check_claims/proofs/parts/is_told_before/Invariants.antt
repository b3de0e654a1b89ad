use Rattle.std.proofs.Common.{ℕ, ◌<◌, get_or}
use Rattle.abs_state.specs.Variables.{range_of}
use Rattle.flag_letters.specs.declared.part.FlagPart.{FlagPart}
use Rattle.check_claims.specs.Claims.{IsConveyedBy, TellsBefore}
use Rattle.check_claims.proofs.parts.is_told_before.Given as goal

-- none of the conditions so far
abbrev pub invariant-loop-condition : goal.invariant-loop-condition
invariant-loop-condition l =
    (k : ℕ) (d : FlagPart) → k < l.condition-index → IsConveyedBy l.part.letter (TellsBefore l.facts (range_of l.before) l.rewriting l.part.linear) (get_or l.conditions k d) → ⊥
