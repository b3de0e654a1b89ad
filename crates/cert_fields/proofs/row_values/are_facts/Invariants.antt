use Rattle.std.proofs.Common.{All, take}
use Rattle.cert_fields.specs.Linear.{IsSum, IsShort}
use Rattle.cert_fields.proofs.row_values.are_facts.Given as goal

abbrev pub invariant-loop-fact : goal.invariant-loop-fact
invariant-loop-fact l = All (IsSum 64) (take l.fact-index l.fact-items) × All IsShort (take l.fact-index l.fact-items)
