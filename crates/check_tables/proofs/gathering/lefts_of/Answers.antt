use Rattle.check_tables.proofs.LeftLemmas.{gathers_all, gathers_more}
use Rattle.check_tables.proofs.gathering.lefts_of.Goals as goal

pub loop-id-preserved : goal.loop-id-preserved
loop-id-preserved c =
    gathers_more c.args.rom.now c.args.certificate.now c.args.proc c.rows_of-rows.result.start c.rows_of-rows.result.end c.loop-id.id c.loop-id.lefts.keys
    c.add_exit.new.lefts.keys c.rows_of-rows.ensures.of c.loop-id.auto.id c.loop-id-test.true c.loop-id.invariant (c.in_ok-add_exit.ensures {u = tt})

pub returns : goal.returns
returns c =
    gathers_all c.args.rom.now c.args.certificate.now c.args.proc c.rows_of-rows.result.start c.rows_of-rows.result.end c.loop-id.id c.loop-id.lefts.keys
    c.rows_of-rows.ensures.of c.loop-id-test.false c.loop-id.invariant
