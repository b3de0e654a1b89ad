use Rattle.runner.proofs.InputLemmas.{reads_joined, reset_fields_kept}
use Rattle.runner.proofs.input.ResetLine.of.Goals as goal

pub returns : goal.returns
returns c = reads_joined _ _ reset_fields_kept c.args.text.now _ (rw c.of.ensures at c.reset_line.ensures)
