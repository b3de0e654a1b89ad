use Rattle.abs_laws.proofs.Reading.{outside_fits, word_is_read}
use Rattle.abs_laws.proofs.rows.reads_fit.Goals as goal

pub returns-clause-bytes : goal.returns-clause-bytes
returns-clause-bytes c = outside_fits

pub returns-clause-words : goal.returns-clause-words
returns-clause-words c = word_is_read
