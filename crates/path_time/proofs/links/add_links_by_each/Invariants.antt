use Rattle.std.proofs.Common.{take}
use Rattle.path_time.specs.Links.{Added, IsArrivalOfSome}
use Rattle.path_time.proofs.links.add_links_by_each.Given as goal

-- the links by the successors so far
abbrev pub invariant-loop-next : goal.invariant-loop-next
invariant-loop-next l =
    Added l.subject.rom l.subject.cert l.from (IsArrivalOfSome l.subject (take l.next-index l.nexts)) l.fn.links.items l.links.items
