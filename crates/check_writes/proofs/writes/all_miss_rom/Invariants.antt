use Rattle.std.proofs.Common.{ℕ, ◌<◌, get_or}
use Rattle.abs_draft.specs.declared.data_write.DataWrite.{DataWrite}
use Rattle.address_map.specs.declared.map.WriteClass.TheVariants as classes
use Rattle.check_writes.specs.Writes.{MissesClass}
use Rattle.check_writes.proofs.writes.all_miss_rom.Given as goal

-- the data writes so far miss
abbrev pub invariant-loop-write : goal.invariant-loop-write
invariant-loop-write l = (k : ℕ) (d : DataWrite) → k < l.write-index → MissesClass l.map classes.Rom (get_or l.writes k d)
