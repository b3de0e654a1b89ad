use Rattle.z80_decode.proofs.Laws.{same_from_spellings, none_missing}
use Rattle.z80_decode.proofs.spelling.one_spelling.Goals as goal

pub returns-clause-alike : goal.returns-clause-alike
returns-clause-alike c = same_from_spellings

pub returns-clause-no_beginning : goal.returns-clause-no_beginning
returns-clause-no_beginning c = none_missing
