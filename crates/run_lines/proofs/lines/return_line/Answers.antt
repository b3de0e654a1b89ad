use Rattle.run_lines.proofs.LineLemmas.{end_whole}
use Rattle.run_lines.proofs.lines.return_line.Goals as goal

pub returns : goal.returns
returns c =
    rw (c.add_byte.ensures.value, c.add_decimal_field-2.ensures.value, c.from-2.ensures, c.add_decimal_field.ensures.value, c.from.ensures, c.add.ensures.value, c.new-line.ensures)
    (end_whole c.args.number c.args.spent)
