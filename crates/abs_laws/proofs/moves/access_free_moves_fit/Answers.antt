use Rattle.abs_laws.proofs.AccessFreeMoves.{access_free_fits}
use Rattle.abs_laws.proofs.moves.access_free_moves_fit.Goals as goal

pub returns : goal.returns
returns c = λ g start o inline move k entry before draft words access_free range room reads f. access_free_fits g start o inline k entry before draft words reads f move access_free range room
