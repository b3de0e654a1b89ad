use Rattle.std.specs.List.{All}
use Rattle.check_tables.specs.Tables.{IsTop}
use Rattle.check_tables.proofs.tables.tops_of.Given as goal

-- each potential so far is the greatest
abbrev pub invariant-loop-id : goal.invariant-loop-id
invariant-loop-id l = All (IsTop l.certificate) l.tops.items
