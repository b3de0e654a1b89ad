use Rattle.path_time.proofs.LinkLemmas.{gathered_all, gathered_more, row_there}
use Rattle.path_time.proofs.links.gathered.Goals as goal

pub loop-from-preserved : goal.loop-from-preserved
loop-from-preserved c =
    let rom = c.args.rom.now in
    let cert = c.args.certificate.now in
    let start = c.rows_of-rows.result.start in
    let end = c.rows_of-rows.result.end in
    let from = c.loop-from.from in
    gathered_more rom cert c.args.proc start from c.loop-from.links.items c.add_links.new.links.items
    (row_there cert c.args.proc start end from c.rows_of-rows.ensures.of c.rows_of-rows.ensures.within c.loop-from.auto.from c.loop-from-test.true)
    c.loop-from.invariant (c.in_ok-add_links.ensures {u = tt})

pub returns : goal.returns
returns c =
    gathered_all c.args.rom.now c.args.certificate.now c.args.proc c.rows_of-rows.result.start c.rows_of-rows.result.end c.loop-from.from
    c.loop-from.links.items c.rows_of-rows.ensures.of c.loop-from-test.false c.loop-from.invariant
