use Rattle.board_laws.proofs.WordLaws.{on_top-is, on_top-length, on_top-push, on_top-under}
use Rattle.board_laws.proofs.words.words_are_ordered.Goals as goal

pub returns-clause-order : goal.returns-clause-order
returns-clause-order c = on_top-is

pub returns-clause-pushed : goal.returns-clause-pushed
returns-clause-pushed c = on_top-push

pub returns-clause-count : goal.returns-clause-count
returns-clause-count c = on_top-length

pub returns-clause-under : goal.returns-clause-under
returns-clause-under c = on_top-under
