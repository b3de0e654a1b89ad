use Rattle.std.proofs.Common.{ℕ, List, ◌<◌, length, map, rules, slice_index, subst, sym}
use Rattle.call_graph.specs.Calls.{IsCycle}
use Rattle.path_time.specs.Links.{edge_of_link}
use Rattle.path_time.proofs.RoundLemmas.{first_there}
use Rattle.path_time.proofs.walks.order_of.Goals as goal

pub first_address-requires-clause-there : goal.first_address-requires-clause-there
first_address-requires-clause-there c =
    let cycle : IsCycle (map edge_of_link c.args.links.now) c.in-Err-Cycle.rows.items = search rules in
    subst (λ (rows : List ℕ). slice_index rows 0 < length c.args.certificate.now.rows) (sym c.deref-in-Err-Cycle.ensures.value)
    (first_there c.args.certificate.now c.args.links.now c.in-Err-Cycle.rows.items c.requires cycle)
