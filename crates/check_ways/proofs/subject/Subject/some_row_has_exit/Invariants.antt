use Rattle.std.proofs.Common.{ℕ, ◌<◌, ◌≤◌}
use Rattle.check_ways.specs.Parts.{AnyExit, AtSomeExit}
use Rattle.check_ways.proofs.subject.Subject.some_row_has_exit.Given as goal

-- none of the rows so far has an exit
abbrev pub invariant-loop-id : goal.invariant-loop-id
invariant-loop-id l = (k : ℕ) → l.initial.id ≤ k → k < l.id → AtSomeExit l.self k AnyExit → ⊥
