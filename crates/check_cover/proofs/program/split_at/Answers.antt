use Rattle.std.proofs.Common.{rules, of_calls, length, nat_lt, refl, sym, subst, ◌∙◌, arith, ap}
use Rattle.std.specs.List.{AllByRecursion}
use Rattle.std.specs.List.Sorted.{IsNonDecreasingBy}
use Rattle.std.proofs.lemmas.Bool.{eq-eqb, ltb-true, ltb-false, ne_eqb}
use Rattle.std.proofs.lemmas.List.Sorted.{IsPartitionPoint-from_clause, IsPartitionedBy-ltb}
use Rattle.std.proofs.lemmas.Option.{slice_get_read}
use Rattle.cert_form.specs.Form.{IsSplit}
use Rattle.check_cover.specs.Program.{split_among}
use Rattle.check_cover.proofs.OrderedLists.{IsFirst, NoneHas, is_first, none_behind, none_has}
use Rattle.check_cover.proofs.ProgramLemmas.{a_split, no_split, split_number, splits_in_order}
use Rattle.check_cover.proofs.program.split_at.Goals as goal

pub returns-in_err-split : goal.returns-in_err-split
returns-in_err-split c =
    let number = c.place_number-number.result in
    let splits = c.splits-splits.result.now in
    let order = subst (IsNonDecreasingBy split_number) (sym c.splits-splits.ensures) (splits_in_order c.args.certificate.now c.is_in_form.ensures) in
    let parted = IsPartitionPoint-from_clause (λ s. nat_lt (split_number s) number) splits _ c.partition_point-place.ensures.partitioned
    (IsPartitionedBy-ltb split_number splits number order) (λ a r f k. search (rules, of_calls)) in
    let found = (c.in_err-split.ensures {u = tt}).lookup in
    let none = none_behind split_number number splits _ parted (ltb-false _ _ (sym found.0)) in
    c.from_residual.ensures
    ∙ sym (ap (split_among c.args.proc c.args.address) (sym c.splits-splits.ensures)
    ∙ no_split c.args.proc c.args.address splits (subst (λ n. NoneHas split_number n splits) c.place_number-number.ensures none))

pub returns-then-place_number-number : goal.returns-then-place_number-number
returns-then-place_number-number c =
    let number = c.place_number-number.result in
    let splits = c.splits-splits.result.now in
    let here = c.in_ok-split.split.now in
    let order = subst (IsNonDecreasingBy split_number) (sym c.splits-splits.ensures) (splits_in_order c.args.certificate.now c.is_in_form.ensures) in
    let parted = IsPartitionPoint-from_clause (λ s. nat_lt (split_number s) number) splits _ c.partition_point-place.ensures.partitioned
    (IsPartitionedBy-ltb split_number splits number order) (λ a r f k. search (rules, of_calls)) in
    let found = (c.in_ok-split.ensures {u = tt}).lookup in
    let there = slice_get_read splits _ _ here refl (ltb-true _ _ (sym found.0)) found.1 in
    let first = is_first split_number number splits _ here parted there (eq-eqb _ _ (sym c.place_number.ensures ∙ c.if-place_number-number.true)) in
    let words = subst (λ xs. AllByRecursion (IsSplit (length c.args.certificate.now.procs)) xs) (sym c.splits-splits.ensures) c.is_in_form.ensures.certificate.splits.each in
    sym (ap (split_among c.args.proc c.args.address) (sym c.splits-splits.ensures)
    ∙ a_split _ c.args.proc c.args.address splits _ here (omega (arith, c.ranges.address.fits)) words
    (subst (λ n. IsFirst split_number n splits c.partition_point-place.result here) c.place_number-number.ensures first))

pub returns-else-place_number-number : goal.returns-else-place_number-number
returns-else-place_number-number c =
    let number = c.place_number-number.result in
    let splits = c.splits-splits.result.now in
    let here = c.in_ok-split.split.now in
    let order = subst (IsNonDecreasingBy split_number) (sym c.splits-splits.ensures) (splits_in_order c.args.certificate.now c.is_in_form.ensures) in
    let parted = IsPartitionPoint-from_clause (λ s. nat_lt (split_number s) number) splits _ c.partition_point-place.ensures.partitioned
    (IsPartitionedBy-ltb split_number splits number order) (λ a r f k. search (rules, of_calls)) in
    let found = (c.in_ok-split.ensures {u = tt}).lookup in
    let there = slice_get_read splits _ _ here refl (ltb-true _ _ (sym found.0)) found.1 in
    let none = none_has split_number number splits _ here order parted there (ne_eqb _ _ (λ e. c.if-place_number-number.false (c.place_number.ensures ∙ e))) in
    sym (ap (split_among c.args.proc c.args.address) (sym c.splits-splits.ensures)
    ∙ no_split c.args.proc c.args.address splits (subst (λ n. NoneHas split_number n splits) c.place_number-number.ensures none))
