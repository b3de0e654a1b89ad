use Rattle.std.proofs.Common.{ap, ◌∙◌, ◌≤◌, map, length, slice_range, false, true, ◌≡◌, nat_lt, nat_le, rules}
use Rattle.std.proofs.lemmas.Fn.{always_returns_same}
use Rattle.std.proofs.lemmas.List.Sorted.{IsPartitionedBy-leb, IsPartitionedBy-ltb}
use Rattle.std.specs.Map.{keys_of}
use Rattle.std.specs.String.{string_bytes}
use Rattle.symbols.proofs.NameLemmas.{EndsBelow, EndsUpTo, ends_in_order, keys_of-slice_range}
use Rattle.symbols.proofs.symbols.Symbols.names_at.Goals as goal
use Rattle.symbols.specs.Names.{names_of}

pub returns-in-Some : goal.returns-in-Some
returns-in-Some c =
    let from : EndsBelow (λ e. e.1.value) c.args.address c.self.inside.definitions.entries c.partition_point-from.result
    = c.partition_point-from.ensures.partitioned (λ e. nat_lt e.1.value c.args.address) (always_returns_same _ _ _ (λ a r f' k. search rules)) (IsPartitionedBy-ltb (λ e. e.1.value) _ _ c.self.invariant) in
    let to : EndsUpTo (λ e. e.1.value) c.args.address c.self.inside.definitions.entries c.partition_point-to.result
    = c.partition_point-to.ensures.partitioned (λ e. nat_le e.1.value c.args.address) (always_returns_same _ _ _ (λ a r f' k. search rules)) (IsPartitionedBy-leb (λ e. e.1.value) _ _ c.self.invariant) in
    let order : c.partition_point-from.result ≤ c.partition_point-to.result = ends_in_order (λ e. e.1.value) c.args.address c.self.inside.definitions.entries c.partition_point-from.result c.partition_point-to.result c.partition_point-from.ensures.bound from to in
    ap (map string_bytes) (c.as_slice-in-Some.ensures ∙ (c.keys.ensures.rest ∙ ap keys_of (c.in-Some.ensures.entries ∙ ap (λ es. slice_range es c.partition_point-from.result c.partition_point-to.result) c.as_slice.ensures.entries)))
    ∙ (keys_of-slice_range string_bytes (λ d. d.value) c.args.address _ _ _ order c.partition_point-to.ensures.bound from to ∙ ap (λ s. names_of s c.args.address) c.self.view_is)

pub returns-in-None : goal.returns-in-None
returns-in-None c =
    let from : EndsBelow (λ e. e.1.value) c.args.address c.self.inside.definitions.entries c.partition_point-from.result
    = c.partition_point-from.ensures.partitioned (λ e. nat_lt e.1.value c.args.address) (always_returns_same _ _ _ (λ a r f' k. search rules)) (IsPartitionedBy-ltb (λ e. e.1.value) _ _ c.self.invariant) in
    let to : EndsUpTo (λ e. e.1.value) c.args.address c.self.inside.definitions.entries c.partition_point-to.result
    = c.partition_point-to.ensures.partitioned (λ e. nat_le e.1.value c.args.address) (always_returns_same _ _ _ (λ a r f' k. search rules)) (IsPartitionedBy-leb (λ e. e.1.value) _ _ c.self.invariant) in
    let order : c.partition_point-from.result ≤ c.partition_point-to.result = ends_in_order (λ e. e.1.value) c.args.address c.self.inside.definitions.entries c.partition_point-from.result c.partition_point-to.result c.partition_point-from.ensures.bound from to in
    let within : c.partition_point-to.result ≤ length c.as_slice.result = rw c.as_slice.ensures.entries c.partition_point-to.ensures.bound in
    let wrong : false ≡ true = c.in-None.ensures.found.1 (order, within) in
    cc
