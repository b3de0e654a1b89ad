use Rattle.std.proofs.Common.{subst}
use Rattle.cert_fields.specs.Counted.{ReadsCounted}
use Rattle.cert_flags.specs.Flags.{AreFewFlags, AreFlags, flags_text}
use Rattle.cert_lines.proofs.row_reading.read_flags.Goals as goal

pub returns : goal.returns
returns c =
    subst (λ form. ReadsCounted (flags_text form) (AreFlags form c.args.slots) AreFewFlags c.args.field.now c.flags_field.result)
    c.flag_form.ensures c.flags_field.ensures
