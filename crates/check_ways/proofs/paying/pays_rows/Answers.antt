use Rattle.std.proofs.Common.{arith}
use Rattle.check_ways.proofs.PayingLemmas.{pays_each, pays_more, pays_not}
use Rattle.check_ways.proofs.paying.pays_rows.Goals as goal

pub returns-then-not-pays_row : goal.returns-then-not-pays_row
returns-then-not-pays_row c =
    let start = c.args.start in
    let end = c.args.end in
    pays_not c.args.subject.now c.args.way.now start end c.loop-id.id c.pays_row.result
    c.requires c.loop-id.auto.id c.loop-id-test.true
    c.if-not-pays_row.true c.pays_row.ensures

pub loop-id-preserved : goal.loop-id-preserved
loop-id-preserved c =
    pays_more c.args.subject.now c.args.way.now c.args.start c.loop-id.id c.pays_row.result c.if-not-pays_row.false c.pays_row.ensures
    c.loop-id.invariant

pub returns : goal.returns
returns c =
    let start = c.args.start in
    let end = c.args.end in
    pays_each c.args.subject.now c.args.way.now start end
    c.requires
    (λ k from below. c.loop-id.invariant k from (omega (arith, below, c.loop-id-test.false)))
