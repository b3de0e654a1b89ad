use Rattle.std.proofs.Common.{rules, ◌≤◌, length}
use Rattle.std.proofs.lemmas.Bool.{MatchBool-at_true}
use Rattle.call_graph.proofs.CycleLemmas.{search_none, search_shortest}
use Rattle.call_graph.proofs.cycle.cycle_through.Goals as goal

pub returns-then-branch-clause-some : goal.returns-then-branch-clause-some
returns-then-branch-clause-some c =
    let closed = MatchBool-at_true _ _ c.if-branch.true c.in_ok-spread.ensures.closed in
    let made = (rw c.deref.ensures.value at c.in_ok-cycle_from.ensures) c.args.calls.now c.args.start closed.0.traced closed.2 in
    search_shortest c.args.calls.now c.args.start c.spread.new.seen c.spread.new.steps.items c.loop-at.at c.in_ok-cycle_from.field-0.items closed.0 closed.1 made.0 made.1 made.2 made.3

pub returns-clause-none : goal.returns-clause-none
returns-clause-none c =
    let all : length c.loop-at.steps.items ≤ c.loop-at.at = search rules in
    search_none c.args.calls.now c.args.start c.loop-at.seen.items c.loop-at.steps.items c.loop-at.at c.loop-at.invariant.0 all

pub loop-at-init : goal.loop-at-init
loop-at-init c = (c.in_ok-seen.ensures.searched c.args.calls.now, c.in_ok-seen.ensures.first)
