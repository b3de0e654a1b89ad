use Rattle.std.proofs.Common.{ℕ, ◌<◌, ◌≤◌}
use Rattle.check_ways.specs.Parts.{AtSomeExit, ReturnLands}
use Rattle.check_walks.proofs.walks.some_return_lands.Given as goal

-- the call does not come back to the row from any exit of the rows so far
abbrev pub invariant-loop-id : goal.invariant-loop-id
invariant-loop-id l =
    (k : ℕ) → l.initial.id ≤ k → k < l.id → AtSomeExit l.subject k (ReturnLands l.subject l.next l.callee l.target) → ⊥
