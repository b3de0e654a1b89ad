use Rattle.std.proofs.Common.{rules, of_calls, ◌≡◌, ◌+◌, suc, nat_lt, refl, sym, subst, ◌∙◌, arith, ap, ℕ}
use Rattle.std.specs.List.Sorted.{IsNonDecreasingBy}
use Rattle.std.proofs.lemmas.Bool.{eq-eqb, ltb-true, ltb-false, ne_eqb}
use Rattle.std.proofs.lemmas.List.Sorted.{IsPartitionPoint-from_clause, IsPartitionedBy-ltb}
use Rattle.std.proofs.lemmas.Option.{slice_get_read}
use Rattle.check_cover.specs.Program.{call_number, callee_among}
use Rattle.check_cover.proofs.OrderedLists.{IsFirst, NoneHas, is_first, none_behind, none_has}
use Rattle.check_cover.proofs.ProgramLemmas.{calls_in_order, first_callee, no_callee}
use Rattle.check_cover.proofs.program.callee_at.Goals as goal

-- the number that is searched for is that of the entry
number_of : (from entry : ℕ) → from ≡ entry → from + 1 ≡ suc entry
number_of from entry e = omega (arith, e)

pub returns-in_err-proc : goal.returns-in_err-proc
returns-in_err-proc c =
    let number = c.from.result + 1 in
    let procs = c.procs-procs.result.now in
    let order = subst (IsNonDecreasingBy call_number) (sym c.procs-procs.ensures) (calls_in_order c.args.certificate.now c.is_in_form.ensures) in
    let parted = IsPartitionPoint-from_clause (λ p. nat_lt (call_number p) number) procs _ c.partition_point-place.ensures.partitioned
    (IsPartitionedBy-ltb call_number procs number order) (λ a r f k. search (rules, of_calls)) in
    let found = (c.in_err-proc.ensures {u = tt}).lookup in
    let none = none_behind call_number number procs _ parted (ltb-false _ _ (sym found.0)) in
    c.from_residual.ensures
    ∙ sym (ap (callee_among 0 c.args.entry) (sym c.procs-procs.ensures)
    ∙ no_callee 0 c.args.entry procs (subst (λ n. NoneHas call_number n procs) (number_of _ _ c.from.ensures) none))

pub returns-then-call_number-number : goal.returns-then-call_number-number
returns-then-call_number-number c =
    let number = c.from.result + 1 in
    let procs = c.procs-procs.result.now in
    let here = c.in_ok-proc.proc.now in
    let order = subst (IsNonDecreasingBy call_number) (sym c.procs-procs.ensures) (calls_in_order c.args.certificate.now c.is_in_form.ensures) in
    let parted = IsPartitionPoint-from_clause (λ p. nat_lt (call_number p) number) procs _ c.partition_point-place.ensures.partitioned
    (IsPartitionedBy-ltb call_number procs number order) (λ a r f k. search (rules, of_calls)) in
    let found = (c.in_ok-proc.ensures {u = tt}).lookup in
    let there = slice_get_read procs _ _ here refl (ltb-true _ _ (sym found.0)) found.1 in
    let first = is_first call_number number procs _ here parted there (eq-eqb _ _ (sym c.call_number.ensures ∙ c.if-call_number-number.true)) in
    sym (ap (callee_among 0 c.args.entry) (sym c.procs-procs.ensures)
    ∙ first_callee c.args.entry procs c.partition_point-place.result here
    (subst (λ n. IsFirst call_number n procs c.partition_point-place.result here) (number_of _ _ c.from.ensures) first))

pub returns-else-call_number-number : goal.returns-else-call_number-number
returns-else-call_number-number c =
    let number = c.from.result + 1 in
    let procs = c.procs-procs.result.now in
    let here = c.in_ok-proc.proc.now in
    let order = subst (IsNonDecreasingBy call_number) (sym c.procs-procs.ensures) (calls_in_order c.args.certificate.now c.is_in_form.ensures) in
    let parted = IsPartitionPoint-from_clause (λ p. nat_lt (call_number p) number) procs _ c.partition_point-place.ensures.partitioned
    (IsPartitionedBy-ltb call_number procs number order) (λ a r f k. search (rules, of_calls)) in
    let found = (c.in_ok-proc.ensures {u = tt}).lookup in
    let there = slice_get_read procs _ _ here refl (ltb-true _ _ (sym found.0)) found.1 in
    let none = none_has call_number number procs _ here order parted there (ne_eqb _ _ (λ e. c.if-call_number-number.false (c.call_number.ensures ∙ e))) in
    sym (ap (callee_among 0 c.args.entry) (sym c.procs-procs.ensures)
    ∙ no_callee 0 c.args.entry procs (subst (λ n. NoneHas call_number n procs) (number_of _ _ c.from.ensures) none))
