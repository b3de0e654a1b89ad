use Rattle.board_laws.proofs.WordLaws.{lays-kept, lays-one, lays-same, lays-sp}
use Rattle.board_laws.proofs.words.words_are_their_bytes.Goals as goal

pub returns-clause-size : goal.returns-clause-size
returns-clause-size c = lays-sp

pub returns-clause-one : goal.returns-clause-one
returns-clause-one c = lays-one

pub returns-clause-kept : goal.returns-clause-kept
returns-clause-kept c = lays-kept

pub returns-clause-same : goal.returns-clause-same
returns-clause-same c = lays-same
