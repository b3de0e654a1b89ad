use Rattle.std.proofs.Common.{◌≡◌, ℕ, ◌<◌, get_or}
use Rattle.abs_state.specs.declared.state.AbsState.{AbsState}
use Rattle.check_ways.specs.Parts.{WideCovered}
use Rattle.check_ways.proofs.going.wides_are_covered.Given as goal

-- the call comes back covered from each of the states so far
abbrev pub invariant-loop-wide : goal.invariant-loop-wide
invariant-loop-wide l =
    (l.coverer ≡ l.fn.coverer) × ((k : ℕ) (wide : AbsState) → k < l.wide-index → WideCovered l.fn.coverer l.subject l.next (get_or l.wides k wide))
