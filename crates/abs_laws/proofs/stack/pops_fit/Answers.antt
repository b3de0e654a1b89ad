use Rattle.abs_laws.proofs.StackMoves.{pop_fits, return_fits}
use Rattle.abs_laws.proofs.stack.pops_fit.Goals as goal

pub returns-clause-popped : goal.returns-clause-popped
returns-clause-popped c = λ g start o inline register k entry before draft rest word. pop_fits g start o k entry before draft inline rest word register

pub returns-clause-returned : goal.returns-clause-returned
returns-clause-returned c = return_fits
