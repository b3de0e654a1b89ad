use Rattle.std.proofs.Common.{◌<◌, ◌∙◌, ℕ, List, [], Some, ap, subst, sym}
use Rattle.std.proofs.lemmas.List.{append-nil}
use Rattle.std.proofs.lemmas.Option.{same_Some}
use Rattle.path_time.specs.Table.{FollowsTable, ahead_at}
use Rattle.path_time.proofs.WalkLemmas.{none_if, there_within}
use Rattle.path_time.proofs.ahead.rows_along.Goals as goal

pub bounds : goal.bounds
bounds c =
    let has = c.loop-ahead.invariant.ends.first c.in-Some.row c.in-Some.is in
    rw c.from-in-Some.ensures (there_within c.args.table.now c.in-Some.row has.there has.is)

pub unreachable-requires : goal.unreachable-requires
unreachable-requires c =
    let has = c.loop-ahead.invariant.ends.first c.in-Some.row c.in-Some.is in
    c.in_default-table.not-Some has.there (ap (ahead_at c.args.table.now) c.from-in-Some.ensures ∙ has.is)

pub loop-ahead-smaller : goal.loop-ahead-smaller
loop-ahead-smaller c =
    let has = c.loop-ahead.invariant.ends.first c.in-Some.row c.in-Some.is in
    let same = same_Some has.there c.in-Some-table.there (sym has.is ∙ ap (ahead_at c.args.table.now) (sym c.from-in-Some.ensures) ∙ c.in-Some-table.is) in
    let fewer = has.fewer in
    subst (λ a. a.behind < c.loop-ahead.ahead.behind) same fewer

pub returns : goal.returns
returns c =
    let all = c.loop-ahead.invariant.follows [] (none_if c.loop-ahead.ahead.next c.in_default.not-Some) in
    subst (λ (rows : List ℕ). FollowsTable c.args.table.now (Some c.args.first) rows) (append-nil c.loop-ahead.rows.items) all
