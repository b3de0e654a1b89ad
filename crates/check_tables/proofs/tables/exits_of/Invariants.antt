use Rattle.std.specs.List.{All}
use Rattle.check_tables.specs.Tables.{AreExits}
use Rattle.check_tables.proofs.tables.exits_of.Given as goal

-- each entry so far is right
abbrev pub invariant-loop-proc : goal.invariant-loop-proc
invariant-loop-proc l = All (AreExits l.rom l.certificate) l.exits.items
