use Rattle.run_lines.proofs.LineLemmas.{begin_whole}
use Rattle.run_lines.proofs.lines.acceptance_line.Goals as goal

pub returns : goal.returns
returns c =
    rw (c.add_byte.ensures.value, c.add_hex4_field.ensures.value, c.add_decimal_field.ensures.value, c.from.ensures, c.add.ensures.value, c.new-line.ensures)
    (begin_whole c.args.number c.args.at)
