use Rattle.std.proofs.Common.{rules}
use Rattle.cert_fields.specs.Terms.{variable_of}
use Rattle.cert_fields.proofs.NameLemmas.{reads_in_shape}
use Rattle.cert_fields.proofs.variable.variable_field.Goals as goal

pub returns : goal.returns
returns c =
    let named = c.in_ok-named_variable_field.field-0 in
    reads_in_shape c.args.field.now (variable_of named) c.in_shape.result (search rules) c.in_shape.ensures
