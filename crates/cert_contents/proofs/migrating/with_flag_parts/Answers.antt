use Rattle.cert_contents.proofs.FlagPartsLemmas.{told_in_form}
use Rattle.cert_contents.proofs.migrating.with_flag_parts.Goals as goal

pub invariant_of-result : goal.invariant_of-result
invariant_of-result c = told_in_form _ _ _ c.draft.view_is c.in_ok-use_flag_parts.ensures c.into_draft-draft.ensures.form

pub returns-clause-form : goal.returns-clause-form
returns-clause-form c = told_in_form _ _ _ c.draft.view_is c.in_ok-use_flag_parts.ensures c.into_draft-draft.ensures.form
