use Rattle.std.proofs.Common.{◌++◌, get_or, ap, ◌∙◌, List, ℕ}
use Rattle.runner.specs.Output.{regs_line}
use Rattle.runner.proofs.OutputLemmas.{six, regs_whole}
use Rattle.runner.proofs.output.add_regs.Goals as goal

pub returns-clause-value : goal.returns-clause-value
returns-clause-value c =
    rw (c.add_byte.ensures.value, c.add_hex4_field-6.ensures.value, c.add_hex4_field-5.ensures.value, c.add_hex4_field-4.ensures.value, c.add_hex4_field-3.ensures.value, c.add_hex4_field-2.ensures.value, c.add_hex4_field.ensures.value, c.add.ensures.value)
    (regs_whole c.args.lines.now (get_or c.args.pairs.now 0 0) (get_or c.args.pairs.now 1 0) (get_or c.args.pairs.now 2 0) (get_or c.args.pairs.now 3 0) (get_or c.args.pairs.now 4 0) (get_or c.args.pairs.now 5 0) ∙ ap (λ (xs : List ℕ). c.args.lines.now ++ regs_line xs) (six c.args.pairs.now c.told-pairs))
