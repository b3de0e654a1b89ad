use Rattle.runner.proofs.OutputLemmas.{done_whole}
use Rattle.runner.proofs.output.add_done.Goals as goal

pub returns-clause-value : goal.returns-clause-value
returns-clause-value c =
    rw (c.add_byte.ensures.value, c.add_hex4_field-2.ensures.value, c.add_hex4_field.ensures.value, c.add_decimal_field-2.ensures.value, c.add_decimal_field.ensures.value, c.from.ensures, c.add.ensures.value)
    (done_whole c.args.lines.now c.args.summary.now)
