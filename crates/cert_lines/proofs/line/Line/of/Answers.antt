use Rattle.std.proofs.Common.{sym, ◌∙◌}
use Rattle.cert_lines.proofs.KeywordLemmas.{no_keyword}
use Rattle.cert_lines.proofs.line.Line.of.Goals as goal

pub returns-in_err-keyword_field : goal.returns-in_err-keyword_field
returns-in_err-keyword_field c =
    rw c.from_residual-in_err-keyword_field.ensures (λ line form same.
    no_keyword c.args.version _ _ _ (sym c.of-fields.ensures ∙ c.in_ok-next.ensures) c.in_err-keyword_field.ensures line same)
