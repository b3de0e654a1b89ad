use Rattle.std.proofs.Common.{◌++◌, get_or, ap, ◌∙◌, List, ℕ}
use Rattle.runner.specs.Output.{sum_line}
use Rattle.runner.proofs.OutputLemmas.{three, sums_whole}
use Rattle.runner.proofs.output.add_sums.Goals as goal

pub returns-clause-value : goal.returns-clause-value
returns-clause-value c =
    rw (c.add_byte.ensures.value, c.add_decimal_field-3.ensures.value, c.add_decimal_field-2.ensures.value, c.add_decimal_field.ensures.value, c.from.ensures, c.from-2.ensures, c.from-3.ensures, c.add.ensures.value)
    (sums_whole c.args.lines.now (get_or c.args.sums.now 0 0) (get_or c.args.sums.now 1 0) (get_or c.args.sums.now 2 0) ∙ ap (λ (xs : List ℕ). c.args.lines.now ++ sum_line xs) (three c.args.sums.now c.told-sums))
