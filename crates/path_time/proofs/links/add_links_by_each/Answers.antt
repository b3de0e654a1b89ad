use Rattle.std.proofs.Common.{◌+◌, take}
use Rattle.path_time.specs.Links.{IsArrival, IsArrivalOfSome}
use Rattle.path_time.proofs.LinkLemmas.{added_both, arrival_more}
use Rattle.path_time.proofs.links.add_links_by_each.Goals as goal

pub loop-next-preserved : goal.loop-next-preserved
loop-next-preserved c =
    let s = c.args.subject.now in
    let nexts = c.args.nexts.now in
    let k = c.loop-next.next-index in
    let item = c.next-item.result in
    added_both s.rom s.cert c.args.from (IsArrivalOfSome s (take k nexts)) (IsArrival s item) (IsArrivalOfSome s (take (k + 1) nexts))
    c.args.links.now.items c.loop-next.links.items c.add_links_by.new.links.items
    (arrival_more s nexts k item c.next-item.is c.loop-next-test.true) c.loop-next.invariant (c.in_ok-add_links_by.ensures {u = tt})
