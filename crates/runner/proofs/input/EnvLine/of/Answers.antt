use Rattle.runner.proofs.InputLemmas.{reads_joined, env_fields_kept}
use Rattle.runner.proofs.input.EnvLine.of.Goals as goal

pub returns : goal.returns
returns c = reads_joined _ _ env_fields_kept c.args.text.now _ (rw c.of.ensures at c.env_line.ensures)
