use Rattle.std.proofs.Common.{ℕ, ◌<◌, ◌≤◌}
use Rattle.check_ways.specs.Parts.{PaysToRow}
use Rattle.check_ways.proofs.paying.pays_rows.Given as goal

-- the row pays for the way to each of the rows so far that is asked
abbrev pub invariant-loop-id : goal.invariant-loop-id
invariant-loop-id l = (k : ℕ) → l.initial.id ≤ k → k < l.id → PaysToRow l.subject l.way k
