use Rattle.std.proofs.Common.{ap, ◌∙◌}
use Rattle.cert_lines.specs.Line.{fed_line}
use Rattle.cert_lines.specs.declared.line.Line.TheVariants as lines
use Rattle.certificate.proofs.WritingLemmas.{puts_line}
use Rattle.certificate.proofs.writing.write_header.Goals as goal

pub returns : goal.returns
returns g c =
    puts_line _ _ _ _ _ _ (c.bytes.ensures.value ∙ c.header_line.ensures ∙ ap (λ v. fed_line v (lines.Header v)) c.version.ensures) c.put.ensures
