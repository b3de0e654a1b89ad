use Rattle.std.proofs.Common.{subst, arith}
use Rattle.check_ways.specs.Parts.{PaysReturn}
use Rattle.check_ways.specs.Ways.{SubjectView}
use Rattle.check_ways.proofs.ExitLemmas.{AreRowsOf, each_exit, each_more, not_each}
use Rattle.check_ways.proofs.paying.rows_are_paid.Goals as goal

pub returns-then-not-row_is_paid : goal.returns-then-not-row_is_paid
returns-then-not-row_is_paid c =
    let start = c.rows_of-rows.result.start in
    let end = c.rows_of-rows.result.end in
    let proc = c.args.callee.now.number in
    not_each c.args.subject.now proc start end c.loop-id.id (PaysReturn c.args.subject.now c.args.next.now c.args.callee.now) c.row_is_paid.result
    (subst (λ (s : SubjectView). AreRowsOf s.cert proc start end) c.subject.view_is c.rows_of-rows.ensures.of) c.loop-id.auto.id c.loop-id-test.true
    c.if-not-row_is_paid.true c.row_is_paid.ensures

pub loop-id-preserved : goal.loop-id-preserved
loop-id-preserved c =
    each_more c.args.subject.now c.rows_of-rows.result.start c.loop-id.id (PaysReturn c.args.subject.now c.args.next.now c.args.callee.now) c.row_is_paid.result
    c.if-not-row_is_paid.false c.row_is_paid.ensures c.loop-id.invariant

pub returns : goal.returns
returns c =
    let start = c.rows_of-rows.result.start in
    let end = c.rows_of-rows.result.end in
    let proc = c.args.callee.now.number in
    each_exit c.args.subject.now proc start end (PaysReturn c.args.subject.now c.args.next.now c.args.callee.now)
    (subst (λ (s : SubjectView). AreRowsOf s.cert proc start end) c.subject.view_is c.rows_of-rows.ensures.of)
    (λ k from below. c.loop-id.invariant k from (omega (arith, below, c.loop-id-test.false)))
