use Rattle.check_tables.proofs.LeftLemmas.{Gathers}
use Rattle.check_tables.proofs.gathering.lefts_of.Given as goal

-- what the exits of the rows so far leave
abbrev pub invariant-loop-id : goal.invariant-loop-id
invariant-loop-id l = Gathers l.rom l.certificate l.proc l.initial.id l.id l.lefts.keys
