use Rattle.std.proofs.Common.{rules, of_calls, ◌≡◌, ◌==◌, false, nat_lt, inl, inr, refl, sym, subst, ◌∙◌}
use Rattle.std.specs.List.{list_any}
use Rattle.std.specs.List.Sorted.{IsNonDecreasingBy}
use Rattle.std.proofs.lemmas.Bool.{cases_Bool, eqb-true, ltb-true, ltb-false}
use Rattle.std.proofs.lemmas.List.Sorted.{IsPartitionPoint-from_clause, IsPartitionedBy-ltb}
use Rattle.std.proofs.lemmas.Option.{slice_get_read}
use Rattle.check_cover.proofs.OrderedLists.{none_behind, none_has}
use Rattle.check_cover.proofs.ProgramLemmas.{an_inline, inlines_in_order, itself, no_inline}
use Rattle.check_cover.proofs.program.is_inline.Goals as goal

pub returns-in-Some : goal.returns-in-Some
returns-in-Some c =
    let address = c.args.address in
    let inlines = c.inlines-inlines.result.now in
    let order = subst (IsNonDecreasingBy itself) (sym c.inlines-inlines.ensures) (inlines_in_order c.args.certificate.now c.is_in_form.ensures) in
    let parted = IsPartitionPoint-from_clause (λ at. nat_lt at address) inlines _ c.partition_point-place.ensures.partitioned
    (IsPartitionedBy-ltb itself inlines address order) (λ a r f k. search (rules, of_calls)) in
    let found = (c.in-Some.ensures {u = tt}).lookup in
    let there = slice_get_read inlines _ _ c.in-Some.at.now refl (ltb-true _ _ (sym found.0)) found.1 in
    subst (λ xs. (c.in-Some.at.now == address) ≡ list_any (λ at. at == address) xs) c.inlines-inlines.ensures
    (elim (cases_Bool (c.in-Some.at.now == address)) [
      | inl same ↦ same ∙ sym (an_inline address inlines _ _ there (eqb-true _ _ same))
      | inr other ↦ other ∙ sym (no_inline address inlines (none_has itself address inlines _ _ order parted there other))
    ])

pub returns-in-None : goal.returns-in-None
returns-in-None c =
    let address = c.args.address in
    let inlines = c.inlines-inlines.result.now in
    let order = subst (IsNonDecreasingBy itself) (sym c.inlines-inlines.ensures) (inlines_in_order c.args.certificate.now c.is_in_form.ensures) in
    let parted = IsPartitionPoint-from_clause (λ at. nat_lt at address) inlines _ c.partition_point-place.ensures.partitioned
    (IsPartitionedBy-ltb itself inlines address order) (λ a r f k. search (rules, of_calls)) in
    let found = (c.in-None.ensures {u = tt}).lookup in
    subst (λ xs. false ≡ list_any (λ at. at == address) xs) c.inlines-inlines.ensures
    (sym (no_inline address inlines (none_behind itself address inlines _ parted (ltb-false _ _ (sym found.0)))))
