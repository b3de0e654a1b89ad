use Rattle.abs_laws.proofs.StackMoves.{push_fits, call_fits}
use Rattle.abs_laws.proofs.stack.pushes_fit.Goals as goal

pub returns-clause-pushed : goal.returns-clause-pushed
returns-clause-pushed c = λ g start o inline register k entry before draft words. push_fits g start o k entry before draft inline words register

pub returns-clause-called : goal.returns-clause-called
returns-clause-called c = call_fits
