use Rattle.inference_commands.proofs.InferLemmas.{is_acceptable}
use Rattle.command_parts.proofs.FileLemmas.{lent_first}
use Rattle.inference_commands.proofs.suggesting.suggest_on.Goals as goal

pub returns-clause-accepted : goal.returns-clause-accepted
returns-clause-accepted g c = λ done.
    let (certificate, accepted) = c.suggest-2.ensures.accepted done in
    is_acceptable _ _ certificate (lent_first _ _ _ c.as_slice.ensures.value c.in-Ok.ensures.first) accepted
