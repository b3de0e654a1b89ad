use Rattle.std.proofs.Common.{◌≡◌, ◌≤ℤ◌, pos, ℕ, ◌<◌, ◌≤◌, Some, slice_get}
use Rattle.cert_lines.specs.declared.row.Row.{Row}
use Rattle.check_tables.specs.Tables.{IsAtMost}
use Rattle.check_tables.proofs.tops.Top.of.Given as goal

-- the potentials of the rows so far are at most this
abbrev pub invariant-loop-id : goal.invariant-loop-id
invariant-loop-id l = (pos 0 ≤ℤ l.potential) × ((k : ℕ) (row : Row) → l.start ≤ k → k < l.id → slice_get l.certificate.rows k ≡ Some row → IsAtMost l.potential row.potential)
