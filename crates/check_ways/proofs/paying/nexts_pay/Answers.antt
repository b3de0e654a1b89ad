use Rattle.std.proofs.Common.{rules}
use Rattle.check_cover.proofs.Lists.{one_more}
use Rattle.check_ways.specs.Parts.{NextPays}
use Rattle.check_ways.proofs.paying.nexts_pay.Goals as goal

pub loop-next-preserved : goal.loop-next-preserved
loop-next-preserved c =
    one_more (NextPays c.args.subject.now) c.args.nexts.now c.loop-next.next-index c.next-item.result c.loop-next.invariant c.loop-next-test.true c.next-item.is
    (c.next_pays.ensures.0 (search (rules, c.if-not-next_pays.false)))
