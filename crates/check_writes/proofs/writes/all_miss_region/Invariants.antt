use Rattle.std.proofs.Common.{ℕ, ◌<◌, get_or}
use Rattle.abs_draft.specs.declared.data_write.DataWrite.{DataWrite}
use Rattle.abs_laws.specs.Writes.{MissesRegion}
use Rattle.check_writes.proofs.writes.all_miss_region.Given as goal

-- the data writes so far miss
abbrev pub invariant-loop-write : goal.invariant-loop-write
invariant-loop-write l = (k : ℕ) (d : DataWrite) → k < l.write-index → MissesRegion l.map l.region (get_or l.writes k d)
