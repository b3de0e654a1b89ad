use Rattle.html.proofs.MarkupLemmas.{text_is_plain}
use Rattle.html.proofs.text.text_has_no_markup.Goals as goal

pub returns : goal.returns
returns c = text_is_plain
