use Rattle.command_parts.proofs.FileLemmas.{lent_first}
use Rattle.named_commands.proofs.NamedLemmas.{is_acceptable_read}
use Rattle.named_commands.proofs.suggesting_named.suggest_named_on.Goals as goal

pub returns-clause-accepted : goal.returns-clause-accepted
returns-clause-accepted g c = λ done.
    is_acceptable_read _ _ (lent_first _ _ _ c.as_slice-read.ensures.value c.in-Ok.ensures.first) (c.suggest.ensures.accepted done)
