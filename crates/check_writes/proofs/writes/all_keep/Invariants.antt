use Rattle.std.proofs.Common.{◌↔◌, drop}
use Rattle.abs_laws.specs.Writes.{AllKeep}
use Rattle.check_writes.proofs.writes.all_keep.Given as goal

-- the data writes that are left keep the armed cells exactly where all of them do
abbrev pub invariant-loop-write : goal.invariant-loop-write
invariant-loop-write l = AllKeep l.fn.ground l.fn.armed l.fn.writes ↔ AllKeep l.fn.ground l.armed (drop l.write-index l.fn.writes)
