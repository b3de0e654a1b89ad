use Rattle.std.proofs.Common.{◌∙◌}
use Rattle.std.proofs.lemmas.Result.{err_from_is_err_and}
use Rattle.cert_lines.specs.declared.line.Line.TheVariants as lines
use Rattle.cert_lines.specs.declared.version.Version.TheVariants.{One}
use Rattle.certificate.proofs.WritingLemmas.{lines_fail, lines_then, lines_then_fail, puts_line, same_text}
use Rattle.certificate.proofs.writing.write.Goals as goal

pub returns-in_err-write_head : goal.returns-in_err-write_head
returns-in_err-write_head g c =
    let p = err_from_is_err_and c.from_residual.result c.from_residual.ensures.1 in
    rw p.1 (lines_fail _ _ _ _ _ c.in_err-write_head.ensures)

pub returns-in_err-write_lists : goal.returns-in_err-write_lists
returns-in_err-write_lists g c =
    let p = err_from_is_err_and c.from_residual-in_err-write_lists.result c.from_residual-in_err-write_lists.ensures.1 in
    rw p.1 (lines_then_fail _ _ _ _ _ _ c.in_ok-write_head.ensures (lines_fail _ _ _ _ _ c.in_err-write_lists.ensures))

pub returns : goal.returns
returns g c =
    let end = puts_line _ _ _ _ _ _
    (c.bytes.ensures.value ∙ c.end_line.ensures ∙ same_text One c.args.certificate.now.version lines.End tt) c.put.ensures in
    lines_then _ _ _ _ _ _ _ c.in_ok-write_head.ensures (lines_then _ _ _ _ _ _ _ c.in_ok-write_lists.ensures end)
