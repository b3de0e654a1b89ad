use Rattle.std.proofs.Common.{ℕ, List, None, Option, Some, arith, subst, sym}
use Rattle.path_time.specs.Table.{Ends, FollowsTable, IsAheadOfEntry}
use Rattle.path_time.specs.Walks.{IsLongest}
use Rattle.path_time.specs.declared.ahead.Ahead.{Ahead}
use Rattle.path_time.proofs.WalkLemmas.{entry_ends, if_ok_both, longest_walk, no_walk}
use Rattle.path_time.proofs.walks.longest.Goals as goal

pub ahead_of_entry-requires-clause-room : goal.ahead_of_entry-requires-clause-room
ahead_of_entry-requires-clause-room c =
    let table = (c.in_ok-table.ensures {u = tt}).table in
    rw c.deref.ensures.value (omega (arith, table.room, c.is_in_form.ensures.limits.rows))

pub walk_along-requires : goal.walk_along-requires
walk_along-requires c =
    let table = c.in_ok-table.table.items in
    let start = c.rows_at-entries.result.start in
    let end = c.rows_at-entries.result.end in
    let before = c.cost_before.result in
    let ahead = c.in-Some-ahead_of_entry.ahead in
    let entry = subst (λ (t : List (Option Ahead)). IsAheadOfEntry t start end before (Some ahead)) c.deref.ensures.value (c.in-Some-ahead_of_entry.ensures {u = tt}) in
    subst (λ (t : List (Option Ahead)). Ends t ahead) (sym c.deref-in-Some-ahead_of_entry.ensures.value)
    (entry_ends c.args.rom.now c.args.certificate.now c.args.proc table start end before ahead (c.in_ok-table.ensures {u = tt}).table entry)

pub returns-in-Some-ahead_of_entry-clause-longest : goal.returns-in-Some-ahead_of_entry-clause-longest
returns-in-Some-ahead_of_entry-clause-longest c =
    let table = c.in_ok-table.table.items in
    let procedure = c.in-Some.procedure in
    let start = c.rows_at-entries.result.start in
    let end = c.rows_at-entries.result.end in
    let ahead = c.in-Some-ahead_of_entry.ahead in
    let entry = subst (λ (n : ℕ). IsAheadOfEntry table start end n (Some ahead)) c.cost_before.ensures
    (subst (λ (t : List (Option Ahead)). IsAheadOfEntry t start end c.cost_before.result (Some ahead)) c.deref.ensures.value (c.in-Some-ahead_of_entry.ensures {u = tt})) in
    if_ok_both _ _ _ c.walk_along.result
    (λ found told follows.
    longest_walk c.args.rom.now c.args.certificate.now c.args.proc procedure table start end ahead found.0 found.1.items (sym (c.in-Some.ensures {u = tt}))
    (c.in_ok-table.ensures {u = tt}).table c.rows_at-entries.ensures.within c.rows_at-entries.ensures.at entry told
    (subst (λ (t : List (Option Ahead)). FollowsTable t (Some ahead) found.1.items) c.deref-in-Some-ahead_of_entry.ensures.value follows))
    c.walk_along.ensures.sum c.walk_along.ensures.rows

pub returns-clause-longest : goal.returns-clause-longest
returns-clause-longest c =
    let table = c.in_ok-table.table.items in
    let procedure = c.in-Some.procedure in
    let start = c.rows_at-entries.result.start in
    let end = c.rows_at-entries.result.end in
    let entry = subst (λ (n : ℕ). IsAheadOfEntry table start end n None) c.cost_before.ensures
    (subst (λ (t : List (Option Ahead)). IsAheadOfEntry t start end c.cost_before.result None) c.deref.ensures.value (c.in-None.ensures {u = tt})) in
    subst (λ (rows : List ℕ). IsLongest c.args.rom.now c.args.certificate.now c.args.proc 0 rows) (sym c.new.ensures.items)
    (no_walk c.args.rom.now c.args.certificate.now c.args.proc procedure table start end (sym (c.in-Some.ensures {u = tt})) (c.in_ok-table.ensures {u = tt}).table
    c.rows_at-entries.ensures.at entry)
