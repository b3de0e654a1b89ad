use Rattle.std.proofs.Common.{◌≡◌, ℕ, ◌<◌, ◌≤◌}
use Rattle.check_ways.specs.Parts.{AtEachExit, ReturnCovered}
use Rattle.check_ways.proofs.going.rows_are_covered.Given as goal

-- the call comes back covered from each exit of the rows so far
abbrev pub invariant-loop-id : goal.invariant-loop-id
invariant-loop-id l =
    (l.coverer ≡ l.fn.coverer)
    × ((k : ℕ) → l.initial.id ≤ k → k < l.id → AtEachExit l.subject k (ReturnCovered l.fn.coverer l.subject l.next l.callee))
