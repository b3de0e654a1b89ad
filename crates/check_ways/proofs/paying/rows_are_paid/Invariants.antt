use Rattle.std.proofs.Common.{ℕ, ◌<◌, ◌≤◌}
use Rattle.check_ways.specs.Parts.{AtEachExit, PaysReturn}
use Rattle.check_ways.proofs.paying.rows_are_paid.Given as goal

-- the row pays for the way back from each exit of the rows so far
abbrev pub invariant-loop-id : goal.invariant-loop-id
invariant-loop-id l = (k : ℕ) → l.initial.id ≤ k → k < l.id → AtEachExit l.subject k (PaysReturn l.subject l.next l.callee)
