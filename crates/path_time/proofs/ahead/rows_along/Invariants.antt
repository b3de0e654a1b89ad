use Rattle.std.proofs.Common.{ℕ, ◌++◌, List, Some}
use Rattle.path_time.specs.Table.{Ends, FollowsTable}
use Rattle.path_time.proofs.ahead.rows_along.Given as goal

-- the rows so far and those that follow are a path of the table, which ends
abbrev pub invariant-loop-ahead : goal.invariant-loop-ahead
invariant-loop-ahead l = record {
  ends : Ends l.table l.ahead;
  follows : (rest : List ℕ) → FollowsTable l.table (Some l.ahead) rest → FollowsTable l.table (Some l.fn.first) (l.rows.items ++ rest);
}

abbrev pub decreases-loop-ahead : goal.decreases-loop-ahead
decreases-loop-ahead l = l.ahead.behind
