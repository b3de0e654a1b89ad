use Rattle.std.proofs.Common.{ap, ◌∙◌}
use Rattle.cert_lines.specs.Line.{fed_line}
use Rattle.cert_lines.specs.declared.line.Line.TheVariants as lines
use Rattle.cert_lines.specs.declared.version.Version.TheVariants.{One}
use Rattle.certificate.proofs.WritingLemmas.{puts_line, same_text}
use Rattle.certificate.proofs.writing.write_stack.Goals as goal

pub returns : goal.returns
returns g c =
    let is = c.bytes.ensures.value ∙ c.stack_line.ensures ∙ ap (λ x. fed_line One (lines.Stack x)) c.region.ensures in
    puts_line _ _ _ _ _ _ (is ∙ same_text One c.args.certificate.now.version (lines.Stack c.args.certificate.now.region) tt) c.put.ensures
