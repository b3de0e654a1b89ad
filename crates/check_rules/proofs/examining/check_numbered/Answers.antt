use Rattle.std.proofs.Common.{subst}
use Rattle.check_rules.proofs.InOrder.{one_more_row}
use Rattle.check_rules.proofs.RepeatedLemmas.{one_more_repeated}
use Rattle.check_rules.specs.Table.{IsConsistent}
use Rattle.check_ways.specs.Ways.{SubjectView}
use Rattle.check_rules.proofs.examining.check_numbered.Goals as goal

pub returns-in-Ok-clause-ok : goal.returns-in-Ok-clause-ok
returns-in-Ok-clause-ok c =
    one_more_row c.args.rom.now c.args.certificate.now c.args.id c.in-Some.subject c.requires.before c.is_subject.ensures
    (c.in-Some.ensures.some.0, c.in-Some.ensures.some.1) c.in-Some.ensures.some.2
    (subst (λ (s : SubjectView). IsConsistent s) c.with_tables-subject.ensures c.in-Ok.ensures.ok)

pub returns-then-is_repeated-clause-ok : goal.returns-then-is_repeated-clause-ok
returns-then-is_repeated-clause-ok c =
    let repeated = c.is_repeated.ensures c.if-is_repeated.true in
    one_more_repeated c.args.rom.now c.args.certificate.now c.args.id c.requires.before repeated.0 repeated.1
