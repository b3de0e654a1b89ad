use Rattle.path_time.proofs.TableLemmas.{exits_all, exits_more}
use Rattle.path_time.proofs.ahead.exits_of.Goals as goal

pub loop-row-preserved : goal.loop-row-preserved
loop-row-preserved c =
    exits_more c.args.rom.now c.args.certificate.now c.rows_of-rows.result.start c.loop-row.row c.rows_of-rows.result.end c.loop-row.table.items c.own_exit.result
    c.rows_of-rows.ensures.within c.loop-row.auto.row c.loop-row-test.true c.own_exit.ensures.exit c.own_exit.ensures.low c.loop-row.invariant

pub returns : goal.returns
returns c =
    exits_all c.args.rom.now c.args.certificate.now c.args.proc c.rows_of-rows.result.start c.loop-row.row c.rows_of-rows.result.end c.loop-row.table.items
    c.rows_of-rows.ensures.of c.rows_of-rows.ensures.within c.loop-row-test.false c.loop-row.invariant
