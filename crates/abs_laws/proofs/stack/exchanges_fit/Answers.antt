use Rattle.abs_laws.proofs.StackMoves.{exchange_fits}
use Rattle.abs_laws.proofs.stack.exchanges_fit.Goals as goal

pub returns : goal.returns
returns c = λ g start o inline register k entry before draft rest word. exchange_fits g start o k entry before draft inline rest word register
