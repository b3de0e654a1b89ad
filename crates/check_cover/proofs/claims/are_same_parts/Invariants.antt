use Rattle.std.proofs.Common.{◌≡◌, ◌<◌, ℕ, get_or}
use Rattle.flag_letters.specs.declared.part.FlagPart.{FlagPart}
use Rattle.check_cover.proofs.claims.are_same_parts.Given as goal

-- those so far are the same
abbrev pub invariant-loop-at : goal.invariant-loop-at
invariant-loop-at l = (k : ℕ) (d : FlagPart) → k < l.at → get_or l.parts k d ≡ get_or l.other k d
