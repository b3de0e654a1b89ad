use Rattle.path_time.proofs.LinkLemmas.{Gathered}
use Rattle.path_time.proofs.links.gathered.Given as goal

-- the links from the rows so far
abbrev pub invariant-loop-from : goal.invariant-loop-from
invariant-loop-from l = Gathered l.rom l.certificate l.proc l.initial.from l.from l.links.items
