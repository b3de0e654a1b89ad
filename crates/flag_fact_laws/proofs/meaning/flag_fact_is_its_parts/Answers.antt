use Rattle.flag_fact_laws.proofs.MeaningLemmas.{fact_is_its_parts}
use Rattle.flag_fact_laws.proofs.meaning.flag_fact_is_its_parts.Goals as goal

pub returns : goal.returns
returns c = λ fact m. fact_is_its_parts fact m
