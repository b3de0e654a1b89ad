use Rattle.explain_commands.proofs.ExplainLemmas.{is_acceptable}
use Rattle.command_parts.proofs.FileLemmas.{lent_first}
use Rattle.explain_commands.proofs.explaining.explain_on.Goals as goal

pub returns-clause-accepted : goal.returns-clause-accepted
returns-clause-accepted g c = λ done.
    let (certificate, accepted) = c.explain.ensures.accepted done in
    is_acceptable _ _ certificate (lent_first _ _ _ c.as_slice.ensures.value c.in-Ok.ensures.first) accepted
