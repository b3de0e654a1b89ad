use Rattle.board_laws.proofs.Traps.{no_trap}
use Rattle.board_laws.proofs.commits.drafts_meet_no_trap.Goals as goal

pub returns : goal.returns
returns c = no_trap
