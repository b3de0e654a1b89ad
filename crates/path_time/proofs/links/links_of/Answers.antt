use Rattle.std.proofs.Common.{rules}
use Rattle.std.proofs.lemmas.List.Sorted.{IsNonDecreasingBy-from_sort_by_key}
use Rattle.path_time.proofs.LinkLemmas.{links_moved}
use Rattle.path_time.proofs.links.links_of.Goals as goal

pub returns-clause-links : goal.returns-clause-links
returns-clause-links c =
    links_moved c.args.rom.now c.args.certificate.now c.args.proc c.sort_by_key.new.self.items c.sort_by_key-2.new.self.items
    c.sort_by_key-2.ensures.permutation
    (links_moved c.args.rom.now c.args.certificate.now c.args.proc c.in_ok-links.links.items c.sort_by_key.new.self.items
    c.sort_by_key.ensures.permutation (c.in_ok-links.ensures {u = tt}))

pub returns-clause-rising : goal.returns-clause-rising
returns-clause-rising c =
    IsNonDecreasingBy-from_sort_by_key (λ link. link.from) c.sort_by_key-2.new.self.items c.in_ok-sort_by_key-2.ensures.sorted (λ a r q k. search rules)
