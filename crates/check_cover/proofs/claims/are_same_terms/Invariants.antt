use Rattle.std.proofs.Common.{◌≡◌, ◌<◌, ℕ, get_or}
use Rattle.loop_bounds.specs.declared.linear.Term.{Term}
use Rattle.check_cover.proofs.claims.are_same_terms.Given as goal

-- those so far are the same
abbrev pub invariant-loop-at : goal.invariant-loop-at
invariant-loop-at l = (k : ℕ) (d : Term) → k < l.at → get_or l.terms k d ≡ get_or l.other k d
