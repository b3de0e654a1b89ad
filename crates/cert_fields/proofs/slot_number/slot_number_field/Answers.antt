use Rattle.std.proofs.Common.{refl}
use Rattle.std.proofs.lemmas.Bool.{false≢true}
use Rattle.cert_fields.proofs.DecimalLemmas.{decimal_begins, decimal_is_text, decimal_from_parse}
use Rattle.cert_fields.proofs.slot_number.slot_number_field.Goals as goal

pub returns-then-not-begins_decimal : goal.returns-then-not-begins_decimal
returns-then-not-begins_decimal c n small same = false≢true (c.if-not-begins_decimal.ensures.1 (decimal_begins _ n small same))

pub returns-in_default : goal.returns-in_default
returns-in_default c n small same = c.in_default.ensures.cases.0 (decimal_is_text _ n small same)

pub returns : goal.returns
returns c =
    rw c.ok.ensures.value (decimal_from_parse c.args.field.now _ (rw c.in-Ok.ensures.cases.0 at c.parse.ensures.value.0) (c.if-not-begins_decimal.ensures.0 refl))
