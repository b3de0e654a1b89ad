use Rattle.std.proofs.Common.{subst, arith}
use Rattle.check_ways.specs.Parts.{AnyExit}
use Rattle.check_ways.specs.Ways.{SubjectView}
use Rattle.check_ways.proofs.ExitLemmas.{AreRowsOf, no_exit, none_more, some_exit}
use Rattle.check_ways.proofs.subject.Subject.some_row_has_exit.Goals as goal

pub returns-then-row_has_exit : goal.returns-then-row_has_exit
returns-then-row_has_exit c =
    let start = c.rows_of-rows.result.start in
    let end = c.rows_of-rows.result.end in
    let proc = c.args.proc in
    some_exit c.args.self.now proc start end c.loop-id.id (AnyExit) c.row_has_exit.result
    (subst (λ (s : SubjectView). AreRowsOf s.cert proc start end) c.self.view_is c.rows_of-rows.ensures.of) c.loop-id.auto.id c.loop-id-test.true
    c.if-row_has_exit.true c.row_has_exit.ensures

pub loop-id-preserved : goal.loop-id-preserved
loop-id-preserved c =
    none_more c.args.self.now c.rows_of-rows.result.start c.loop-id.id (AnyExit) c.row_has_exit.result
    c.if-row_has_exit.false c.row_has_exit.ensures c.loop-id.invariant

pub returns : goal.returns
returns c =
    let start = c.rows_of-rows.result.start in
    let end = c.rows_of-rows.result.end in
    let proc = c.args.proc in
    no_exit c.args.self.now proc start end (AnyExit)
    (subst (λ (s : SubjectView). AreRowsOf s.cert proc start end) c.self.view_is c.rows_of-rows.ensures.of)
    (λ k from below. c.loop-id.invariant k from (omega (arith, below, c.loop-id-test.false)))
