use Rattle.std.proofs.Common.{◌≡◌, map, take}
use Rattle.path_time.specs.Links.{edge_of_link}
use Rattle.path_time.proofs.links.edges_of.Given as goal

-- the links so far, without their costs
abbrev pub invariant-loop-link : goal.invariant-loop-link
invariant-loop-link l = l.edges.items ≡ map edge_of_link (take l.link-index l.links)
