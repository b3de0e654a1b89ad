use Rattle.std.proofs.Common.{◌↔◌, drop}
use Rattle.check_writes.specs.Writes.{FindsArmed}
use Rattle.check_writes.proofs.writes.find_armed.Given as goal

-- the data writes that are left find all cells armed exactly where all of them do
abbrev pub invariant-loop-write : goal.invariant-loop-write
invariant-loop-write l = FindsArmed l.fn.ground l.fn.armed l.fn.writes ↔ FindsArmed l.fn.ground l.armed (drop l.write-index l.fn.writes)
