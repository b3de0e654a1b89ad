use Rattle.std.proofs.Common.{rules, of_calls}
use Rattle.cert_lines.specs.Line.{fed_line}
use Rattle.cert_lines.specs.declared.line.Line.TheVariants as lines
use Rattle.cert_lines.specs.declared.version.Version.TheVariants.{One}
use Rattle.certificate.proofs.WritingLemmas.{puts_list, same_text}
use Rattle.certificate.proofs.writing.write_splits.Goals as goal

pub returns : goal.returns
returns g c =
    let put = c.write_each.ensures (λ x. fed_line One (lines.Split x)) (λ x line gives. search (rules, of_calls)) in
    puts_list One c.args.certificate.now.version lines.Split _ _ _ _ _ (λ x. same_text One _ (lines.Split x) tt) c.splits.ensures put
