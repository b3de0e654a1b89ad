use Rattle.std.proofs.Common.{ℕ, ◌<◌, ◌≤◌}
use Rattle.check_cover.specs.Covering.{RowCovers}
use Rattle.check_cover.proofs.covering.Coverer.first_covering.Given as goal

-- none of the rows so far covers the state
abbrev pub invariant-loop-id : goal.invariant-loop-id
invariant-loop-id l = (k : ℕ) → l.start ≤ k → k < l.id → RowCovers l.self l.sought.arrival.now l.sought.state.now k → ⊥
