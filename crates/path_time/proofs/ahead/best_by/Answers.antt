use Rattle.std.proofs.Common.{◌<◌, get_or, rules}
use Rattle.std.proofs.lemmas.List.Elements.{Contains-get_or}
use Rattle.std.proofs.lemmas.List.{get_or_default}
use Rattle.path_time.specs.declared.links.Link.{Link}
use Rattle.path_time.proofs.TableLemmas.{best_more}
use Rattle.path_time.proofs.ahead.best_by.Goals as goal

pub bounds-table-from : goal.bounds-table-from
bounds-table-from c =
    let none : Link = record { from = 0; to = 0; cost = 0 } in
    let links = c.args.links.now in
    rw c.from.ensures (c.requires.within (get_or links c.loop-link.link-index none) (Contains-get_or links c.loop-link.link-index none c.loop-link-test.true))

pub loop-link-preserved : goal.loop-link-preserved
loop-link-preserved c =
    let none : Link = record { from = 0; to = 0; cost = 0 } in
    let links = c.args.links.now in
    let k = c.loop-link.link-index in
    let item : Link = get_or links k none in
    let low : item.cost < 4294967296 = search rules in
    rw (c.longer-best.ensures, c.one_more.ensures, c.from.ensures)
    (best_more links c.args.table.now c.args.before c.loop-link.best k item (get_or_default links k none item c.loop-link-test.true) c.loop-link-test.true
    low c.loop-link.invariant)
