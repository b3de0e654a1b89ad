use Rattle.abs_laws.proofs.KnownWrites.{known_miss, known_taken}
use Rattle.abs_laws.proofs.data_writes.writes_are_as_known.Goals as goal

pub returns-clause-misses : goal.returns-clause-misses
returns-clause-misses c = known_miss

pub returns-clause-taken : goal.returns-clause-taken
returns-clause-taken c = known_taken
