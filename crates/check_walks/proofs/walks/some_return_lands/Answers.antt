use Rattle.std.proofs.Common.{subst, arith}
use Rattle.check_ways.specs.Parts.{ReturnLands}
use Rattle.check_ways.specs.Ways.{SubjectView}
use Rattle.check_ways.proofs.ExitLemmas.{AreRowsOf, no_exit, none_more, some_exit}
use Rattle.check_walks.proofs.walks.some_return_lands.Goals as goal

pub returns-then-row_lands : goal.returns-then-row_lands
returns-then-row_lands c =
    let start = c.rows_of-rows.result.start in
    let end = c.rows_of-rows.result.end in
    let proc = c.args.callee.now.number in
    some_exit c.args.subject.now proc start end c.loop-id.id (ReturnLands c.args.subject.now c.args.next.now c.args.callee.now c.args.target.now) c.row_lands.result
    (subst (λ (s : SubjectView). AreRowsOf s.cert proc start end) c.subject.view_is c.rows_of-rows.ensures.of) c.loop-id.auto.id c.loop-id-test.true
    c.if-row_lands.true c.row_lands.ensures

pub loop-id-preserved : goal.loop-id-preserved
loop-id-preserved c =
    none_more c.args.subject.now c.rows_of-rows.result.start c.loop-id.id (ReturnLands c.args.subject.now c.args.next.now c.args.callee.now c.args.target.now) c.row_lands.result
    c.if-row_lands.false c.row_lands.ensures c.loop-id.invariant

pub returns : goal.returns
returns c =
    let start = c.rows_of-rows.result.start in
    let end = c.rows_of-rows.result.end in
    let proc = c.args.callee.now.number in
    no_exit c.args.subject.now proc start end (ReturnLands c.args.subject.now c.args.next.now c.args.callee.now c.args.target.now)
    (subst (λ (s : SubjectView). AreRowsOf s.cert proc start end) c.subject.view_is c.rows_of-rows.ensures.of)
    (λ k from below. c.loop-id.invariant k from (omega (arith, below, c.loop-id-test.false)))
