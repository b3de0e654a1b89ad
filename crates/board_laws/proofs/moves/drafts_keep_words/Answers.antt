use Rattle.board_laws.proofs.EachMove.{aside_leaves, leaves_alike}
use Rattle.board_laws.proofs.moves.drafts_keep_words.Goals as goal

pub returns-clause-aside : goal.returns-clause-aside
returns-clause-aside c = aside_leaves

pub returns-clause-alike : goal.returns-clause-alike
returns-clause-alike c = leaves_alike
