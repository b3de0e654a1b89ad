use Rattle.board_laws.proofs.EachMove.{words_wait}
use Rattle.board_laws.proofs.commits.time_keeps_words.Goals as goal

pub returns : goal.returns
returns c = words_wait
