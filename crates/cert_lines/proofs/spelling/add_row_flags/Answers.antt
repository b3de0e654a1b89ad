use Rattle.std.proofs.Common.{◌++◌, ◌∙◌, ap}
use Rattle.cert_flags.specs.Flags.{flags_text, flags_with}
use Rattle.cert_lines.specs.Row.{row_flags}
use Rattle.cert_lines.specs.Version.{flag_form}
use Rattle.cert_lines.specs.declared.row.Row.{Row}
use Rattle.cert_lines.proofs.spelling.add_row_flags.Goals as goal

pub returns-clause-value : goal.returns-clause-value
returns-clause-value c =
    c.add_flags.ensures.value
    ∙ ap (λ form. c.args.line.now ++ flags_text form (flags_with c.row.inside.flag c.row.inside.parts.now)) c.flag_form.ensures
    ∙ ap (λ (r : Row). c.args.line.now ++ flags_text (flag_form c.args.version) (row_flags r)) c.row.view_is
