use Rattle.texts.proofs.FieldLemmas.{nothing_left}
use Rattle.texts.proofs.fields.Fields.is_empty.Goals as goal

pub returns : goal.returns
returns c = nothing_left _ _ _ _ c.is_none.ensures c.self.view_is
