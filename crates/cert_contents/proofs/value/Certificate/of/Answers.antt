use Rattle.std.proofs.Common.{Err}
use Rattle.std.proofs.lemmas.Result.{err_from_is_err_and}
use Rattle.cert_contents.proofs.PartsLemmas.{all_parts_read, parts_limit, parts_line, parts_ok, parts_only, refused_part}
use Rattle.cert_contents.proofs.value.Certificate.of.Goals as goal

pub returns-in_err-take_parts-clause-only : goal.returns-in_err-take_parts-clause-only
returns-in_err-take_parts-clause-only c =
    let p = err_from_is_err_and c.from_residual.result c.from_residual.ensures.1 in
    let fault = c.in_err-take_parts.field-0.0 in
    rw (p.1, p.2)
    (parts_only c.args.parts (Err fault) (refused_part c.args.parts c.new-reader.result fault c.new-reader.ensures.none c.in_err-take_parts.ensures))

pub returns-in_err-take_parts-clause-line : goal.returns-in_err-take_parts-clause-line
returns-in_err-take_parts-clause-line c =
    let p = err_from_is_err_and c.from_residual.result c.from_residual.ensures.1 in
    let fault = c.in_err-take_parts.field-0.0 in
    rw (p.1, p.2)
    (parts_line c.args.parts (Err fault) (refused_part c.args.parts c.new-reader.result fault c.new-reader.ensures.none c.in_err-take_parts.ensures))

pub returns-in_err-take_parts-clause-limit : goal.returns-in_err-take_parts-clause-limit
returns-in_err-take_parts-clause-limit c =
    let p = err_from_is_err_and c.from_residual.result c.from_residual.ensures.1 in
    let fault = c.in_err-take_parts.field-0.0 in
    rw (p.1, p.2)
    (parts_limit c.args.parts (Err fault) (refused_part c.args.parts c.new-reader.result fault c.new-reader.ensures.none c.in_err-take_parts.ensures))

pub returns-clause-ok : goal.returns-clause-ok
returns-clause-ok c =
    let all = c.in_ok-take_parts.ensures in
    parts_ok c.args.parts c.end.result (all_parts_read c.args.parts c.new-reader.result c.take_parts.new.self c.end.result c.new-reader.ensures.none all.0 all.1 c.end.ensures)

pub returns-clause-only : goal.returns-clause-only
returns-clause-only c =
    let all = c.in_ok-take_parts.ensures in
    parts_only c.args.parts c.end.result (all_parts_read c.args.parts c.new-reader.result c.take_parts.new.self c.end.result c.new-reader.ensures.none all.0 all.1 c.end.ensures)

pub returns-clause-line : goal.returns-clause-line
returns-clause-line c =
    let all = c.in_ok-take_parts.ensures in
    parts_line c.args.parts c.end.result (all_parts_read c.args.parts c.new-reader.result c.take_parts.new.self c.end.result c.new-reader.ensures.none all.0 all.1 c.end.ensures)
