use Rattle.board_laws.proofs.Laid.{placed}
use Rattle.board_laws.proofs.words.words_place_sp.Goals as goal

pub returns : goal.returns
returns c = λ map region s words h. let p = placed map region s s.regs.sp words h.is_region h.room h.laid in (p.is, p.low)
