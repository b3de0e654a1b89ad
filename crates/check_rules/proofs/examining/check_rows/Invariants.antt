use Rattle.std.proofs.Common.{◌≡◌}
use Rattle.check_rules.specs.Acceptance.{AreConsistent}
use Rattle.check_rules.proofs.examining.check_rows.Given as goal

-- no reason applies to the rows so far
abbrev pub invariant-loop-id : goal.invariant-loop-id
invariant-loop-id l = record { before : AreConsistent l.rom l.certificate l.id; coverer : l.coverer ≡ l.certificate }
