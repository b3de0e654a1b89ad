-- The constants of an instruction's moves are in range.
use Rattle.std.proofs.Common.{ℕ, List, [], ◌∷◌, Ok}
use Rattle.z80_decode.specs.declared.instr.Instr.{Instr}
use Rattle.z80_moves.proofs.Fits.{MoveFits, MovesFit, moves_fit}
use Rattle.z80_moves.specs.Moves.{moves_of}
use Rattle.z80_moves.specs.declared.moves.Move.{Move}
use Rattle.z80_moves.specs.declared.moves.Move.TheVariants.{SetByte, SetWord}
use Rattle.board_step.proofs.RangeLemmas.{spelled_fits}
use Rattle.board_fetch.specs.Decoded.{StandsAt}
use Rattle.board_step.specs.State.{AreBytes}
use Rattle.abs_laws.specs.Fits.{IsInRange, AreInRange}

in_range : (m : Move) → MoveFits m → IsInRange m
unfolding MoveFits
in_range (SetByte r n) h = h
in_range (SetWord w nn) h = h
in_range _ h = tt

all_in_range : (ms : List Move) → MovesFit ms → AreInRange ms
unfolding MovesFit AreInRange
all_in_range [] h = tt
all_in_range (m ∷ ms) h = (in_range m h.0, all_in_range ms h.1)

pub instruction_in_range : (rom : List ℕ) (at : ℕ) (instr : Instr) → AreBytes rom → StandsAt rom at (Ok instr) → AreInRange (moves_of instr)
instruction_in_range rom at instr bytes stands = all_in_range (moves_of instr) (moves_fit instr (spelled_fits rom at instr bytes stands))
