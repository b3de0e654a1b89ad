-- The instruction at a row's address determines its exit.
use Rattle.std.proofs.Common.{◌≡◌, ◌∙◌, if◌then◌else◌, Bool, true, List, ℕ, Option, None, Result, Ok, Err, subst, ap, refl, drop}
use Rattle.abs_state.specs.declared.state.AbsState.{AbsState}
use Rattle.check_cover.specs.Program.{is_main}
use Rattle.cert_lines.specs.declared.row.Row.{Row}
use Rattle.check_tables.specs.Exits.{exit_by, is_at_end, state_left}
use Rattle.board_fetch.proofs.DecodedLemmas.{decoded_once}
use Rattle.board_fetch.specs.Decoded.{StandsAt}
use Rattle.z80_decode.specs.declared.fault.DecodeFault.{DecodeFault}
use Rattle.z80_decode.specs.declared.instr.Instr.{Instr}

-- the exit of a row with this instruction, if a return leaves there
pub left_at : (rom : List ℕ) (row : Row) (instr : Instr) (only : Option AbsState) → true ≡ is_at_end (is_main row.proc) row.state →
    StandsAt rom row.address (Ok instr) → only ≡ state_left instr row.parts row.state →
    (decoded : Result Instr DecodeFault) → StandsAt rom row.address decoded → only ≡ exit_by (is_main row.proc) row.parts row.state decoded
left_at rom row instr only end stands is decoded other =
    subst (λ (d : Result Instr DecodeFault). only ≡ exit_by (is_main row.proc) row.parts row.state d) (decoded_once (drop row.address rom) (Ok instr) decoded stands other)
    (is ∙ ap (λ (b : Bool). if b then state_left instr row.parts row.state else None) end)

-- a row without an instruction at its address has none
pub none_at : (rom : List ℕ) (row : Row) (fault : DecodeFault) → StandsAt rom row.address (Err fault) → (decoded : Result Instr DecodeFault) →
    StandsAt rom row.address decoded → None ≡ exit_by (is_main row.proc) row.parts row.state decoded
none_at rom row fault stands decoded other =
    subst (λ (d : Result Instr DecodeFault). None ≡ exit_by (is_main row.proc) row.parts row.state d) (decoded_once (drop row.address rom) (Err fault) decoded stands other) refl
