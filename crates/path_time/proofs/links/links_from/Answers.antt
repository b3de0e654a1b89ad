use Rattle.std.proofs.Common.{◌≡◌, ◌-◌, List, true, false, length, take, drop, ltb, leb, rules, subst, sym}
use Rattle.std.specs.List.Sorted.{IsPartitionPoint}
use Rattle.std.proofs.lemmas.List.Sorted.{IsNonDecreasingBy-drop, IsNonDecreasingBy-take, IsPartitionPoint-from_clause, IsPartitionedBy-leb, IsPartitionedBy-ltb}
use Rattle.std.proofs.lemmas.List.{take_rest}
use Rattle.path_time.specs.Table.{AreLinksFrom}
use Rattle.path_time.specs.declared.links.Link.{Link}
use Rattle.path_time.proofs.LinkLemmas.{links_between}
use Rattle.path_time.proofs.links.links_from.Goals as goal

pub returns : goal.returns
returns c =
    let links = c.args.links.now in
    let row = c.args.row in
    let start = c.partition_point-start.result in
    let count = c.partition_point-count.result in
    let first = IsPartitionPoint-from_clause (λ (l : Link). ltb l.from row) links start c.partition_point-start.ensures.partitioned
    (IsPartitionedBy-ltb (λ (l : Link). l.from) links row c.requires) (λ a r q k. search rules) in
    let rest = take (length links - start) (drop start links) in
    let last = IsPartitionPoint-from_clause (λ (l : Link). leb l.from row) rest count c.partition_point-count.ensures.partitioned
    (IsPartitionedBy-leb (λ (l : Link). l.from) rest row
    (IsNonDecreasingBy-take (λ (l : Link). l.from) (length links - start) (drop start links) (IsNonDecreasingBy-drop (λ (l : Link). l.from) start links c.requires)))
    (λ a r q k. search rules) in
    subst (λ (ls : List Link). AreLinksFrom links row (take count ls)) (sym (take_rest links start))
    (links_between links row start count first
    (subst (λ (ls : List Link). IsPartitionPoint (λ (l : Link). leb l.from row ≡ true) (λ (l : Link). leb l.from row ≡ false) ls count) (take_rest links start) last))
