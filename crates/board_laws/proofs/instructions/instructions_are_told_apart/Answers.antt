use Rattle.board_laws.proofs.EachUse.{sets_without_access, told_apart}
use Rattle.board_laws.proofs.instructions.instructions_are_told_apart.Goals as goal

pub returns-clause-aside : goal.returns-clause-aside
returns-clause-aside c = told_apart

pub returns-clause-sets : goal.returns-clause-sets
returns-clause-sets c = sets_without_access
