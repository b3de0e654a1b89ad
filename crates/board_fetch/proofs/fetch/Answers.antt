use Rattle.board_fetch.proofs.DecodedLemmas.{spells_found}
use Rattle.board_fetch.proofs.fetch.Goals as goal

pub returns-clause-stands : goal.returns-clause-stands
returns-clause-stands c = rw (← c.bytes_from.ensures) (spells_found _ _ c.decode.ensures.found)
