use Rattle.std.proofs.Common.{◌≡◌, ◌≢◌, [], Err, arith}
use Rattle.std.proofs.lemmas.Result.{err_from_is_err_and}
use Rattle.cert_form.proofs.BadLines.{long_from_line}
use Rattle.cert_form.proofs.Texts.{HasLine, stands_first, stands_next}
use Rattle.certificate.proofs.ReadingLemmas.{answer_found, answer_limit, answer_line, answer_memory, answer_only, bytes_left, ended, no_bytes_left, refused, too_long, unended}
use Rattle.certificate.proofs.reading.read.Goals as goal

pub loop-line-init : goal.loop-line-init
loop-line-init c = stands_first c.args.bytes.now c.new-reader.result c.new-reader.ensures.none c.new-reader.ensures.form

pub loop-line-preserved : goal.loop-line-preserved
loop-line-preserved c =
    let next : HasLine c.loop-line.rest.now c.in-Some.line.now c.in-Some.after.now = record { text = c.in-Some.ensures.cut; parts = c.in-Some.ensures.parts } in
    let takes = c.in_ok-line.ensures.line in
    stands_next _ _ _ _ c.loop-line.reader c.line.new.self takes.0 c.loop-line.invariant next takes.2 takes.3 takes.4

pub returns-then-line-gt-LONGEST_LINE-clause-only : goal.returns-then-line-gt-LONGEST_LINE-clause-only
returns-then-line-gt-LONGEST_LINE-clause-only c =
    let next : HasLine c.loop-line.rest.now c.in-Some.line.now c.in-Some.after.now = record { text = c.in-Some.ensures.cut; parts = c.in-Some.ensures.parts } in
    answer_only c.args.bytes.now (Err c.bad_line.result) (too_long _ c.loop-line.reader _ _ c.loop-line.invariant (long_from_line _ _ _ next (omega (arith, c.if-line-gt-LONGEST_LINE.true))) c.bad_line.ensures)

pub returns-then-line-gt-LONGEST_LINE-clause-line : goal.returns-then-line-gt-LONGEST_LINE-clause-line
returns-then-line-gt-LONGEST_LINE-clause-line c n same =
    let next : HasLine c.loop-line.rest.now c.in-Some.line.now c.in-Some.after.now = record { text = c.in-Some.ensures.cut; parts = c.in-Some.ensures.parts } in
    answer_line c.args.bytes.now (Err c.bad_line.result) (too_long _ c.loop-line.reader _ _ c.loop-line.invariant (long_from_line _ _ _ next (omega (arith, c.if-line-gt-LONGEST_LINE.true))) c.bad_line.ensures) n (cc)

pub returns-in_err-line-clause-only : goal.returns-in_err-line-clause-only
returns-in_err-line-clause-only c =
    let p = err_from_is_err_and c.from_residual.result c.from_residual.ensures.1 in
    let next : HasLine c.loop-line.rest.now c.in-Some.line.now c.in-Some.after.now = record { text = c.in-Some.ensures.cut; parts = c.in-Some.ensures.parts } in
    rw (p.1, p.2) (answer_only c.args.bytes.now (Err c.in_err-line.field-0.0) (refused (Unit {0}) _ c.loop-line.reader c.line.new.self _ _ _ _ c.loop-line.invariant next (omega (arith, c.if-line-gt-LONGEST_LINE.false)) c.in_err-line.ensures.line))

pub returns-in_err-line-clause-line : goal.returns-in_err-line-clause-line
returns-in_err-line-clause-line c =
    let p = err_from_is_err_and c.from_residual.result c.from_residual.ensures.1 in
    let next : HasLine c.loop-line.rest.now c.in-Some.line.now c.in-Some.after.now = record { text = c.in-Some.ensures.cut; parts = c.in-Some.ensures.parts } in
    rw (p.1, p.2) (answer_line c.args.bytes.now (Err c.in_err-line.field-0.0) (refused (Unit {0}) _ c.loop-line.reader c.line.new.self _ _ _ _ c.loop-line.invariant next (omega (arith, c.if-line-gt-LONGEST_LINE.false)) c.in_err-line.ensures.line))

pub returns-in_err-line-clause-limit : goal.returns-in_err-line-clause-limit
returns-in_err-line-clause-limit c =
    let p = err_from_is_err_and c.from_residual.result c.from_residual.ensures.1 in
    let next : HasLine c.loop-line.rest.now c.in-Some.line.now c.in-Some.after.now = record { text = c.in-Some.ensures.cut; parts = c.in-Some.ensures.parts } in
    rw (p.1, p.2) (answer_limit c.args.bytes.now (Err c.in_err-line.field-0.0) (refused (Unit {0}) _ c.loop-line.reader c.line.new.self _ _ _ _ c.loop-line.invariant next (omega (arith, c.if-line-gt-LONGEST_LINE.false)) c.in_err-line.ensures.line))

pub returns-in_err-line-clause-memory : goal.returns-in_err-line-clause-memory
returns-in_err-line-clause-memory c =
    let p = err_from_is_err_and c.from_residual.result c.from_residual.ensures.1 in
    let next : HasLine c.loop-line.rest.now c.in-Some.line.now c.in-Some.after.now = record { text = c.in-Some.ensures.cut; parts = c.in-Some.ensures.parts } in
    rw (p.1, p.2) (answer_memory c.args.bytes.now (Err c.in_err-line.field-0.0) (refused (Unit {0}) _ c.loop-line.reader c.line.new.self _ _ _ _ c.loop-line.invariant next (omega (arith, c.if-line-gt-LONGEST_LINE.false)) c.in_err-line.ensures.line))

pub returns-then-not-is_empty-clause-only : goal.returns-then-not-is_empty-clause-only
returns-then-not-is_empty-clause-only c =
    let some : c.loop-line.rest.now ≢ [] = bytes_left _ _ c.is_empty.ensures c.if-not-is_empty.true in
    answer_only c.args.bytes.now (Err c.bad_line-then-not-is_empty.result) (unended _ c.loop-line.reader _ _ c.loop-line.invariant c.in_default.ensures.cut some c.bad_line-then-not-is_empty.ensures)

pub returns-then-not-is_empty-clause-line : goal.returns-then-not-is_empty-clause-line
returns-then-not-is_empty-clause-line c n same =
    let some : c.loop-line.rest.now ≢ [] = bytes_left _ _ c.is_empty.ensures c.if-not-is_empty.true in
    answer_line c.args.bytes.now (Err c.bad_line-then-not-is_empty.result) (unended _ c.loop-line.reader _ _ c.loop-line.invariant c.in_default.ensures.cut some c.bad_line-then-not-is_empty.ensures) n (cc)

pub returns-clause-found : goal.returns-clause-found
returns-clause-found c =
    let none : c.loop-line.rest.now ≡ [] = no_bytes_left _ _ c.is_empty.ensures c.if-not-is_empty.false in
    answer_found c.args.bytes.now c.end.result (ended _ c.loop-line.reader _ _ c.loop-line.invariant none c.end.ensures)

pub returns-clause-only : goal.returns-clause-only
returns-clause-only c =
    let none : c.loop-line.rest.now ≡ [] = no_bytes_left _ _ c.is_empty.ensures c.if-not-is_empty.false in
    answer_only c.args.bytes.now c.end.result (ended _ c.loop-line.reader _ _ c.loop-line.invariant none c.end.ensures)

pub returns-clause-line : goal.returns-clause-line
returns-clause-line c =
    let none : c.loop-line.rest.now ≡ [] = no_bytes_left _ _ c.is_empty.ensures c.if-not-is_empty.false in
    answer_line c.args.bytes.now c.end.result (ended _ c.loop-line.reader _ _ c.loop-line.invariant none c.end.ensures)
