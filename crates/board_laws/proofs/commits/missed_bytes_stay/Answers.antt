use Rattle.board_laws.proofs.Bytes.{all_missed, unused_missed, used_missed}
use Rattle.board_laws.proofs.Brought.{bytes_missed}
use Rattle.board_laws.proofs.commits.missed_bytes_stay.Goals as goal

pub returns-clause-stored : goal.returns-clause-stored
returns-clause-stored c = all_missed

pub returns-clause-committed : goal.returns-clause-committed
returns-clause-committed c = bytes_missed

pub returns-clause-used : goal.returns-clause-used
returns-clause-used c = used_missed

pub returns-clause-unused : goal.returns-clause-unused
returns-clause-unused c = unused_missed
