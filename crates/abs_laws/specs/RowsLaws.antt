-- What the laws of src/rows.rt say: each is the contract of the function with its name.
use Rattle.std.specs.Prelude.{ℕ, ◌≡◌, length, ◌<◌, Bool}
use Rattle.intervals.specs.Domain.{Entry}
use Rattle.stack_shape.specs.Shape.{HoldsShape}
use Rattle.z80_decode.specs.Spelling.{spelling}
use Rattle.z80_decode.specs.declared.instr.Instr.{Instr}
use Rattle.z80_draft.specs.Draft.{draft_on, past, word_read}
use Rattle.z80_draft.specs.Registers.{IsRegs}
use Rattle.abs_state.specs.Fact.{HoldsFact}
use Rattle.abs_state.specs.Pairs.{HoldsPairs}
use Rattle.abs_state.specs.Seen.{Seen}
use Rattle.abs_state.specs.Variables.{value_in}
use Rattle.abs_state.specs.declared.state.AbsState.{AbsState}
use Rattle.abs_draft.specs.Ground.{GroundView}
use Rattle.abs_draft.specs.Outcomes.{known_before}
use Rattle.abs_laws.specs.Fits.{Fits, ReadsFit}
use Rattle.address_map.specs.MapLaw.{IsMap}
use Rattle.board_step.specs.Context.{ContextView}
use Rattle.board_step.specs.Env.{IsEnv}
use Rattle.board_step.specs.Reads.{outside_of}
use Rattle.board_step.specs.State.{AreBytes, IsState}
use Rattle.abs_state.specs.Cell.{HoldsCells}
use Rattle.abs_laws.specs.Cells.{bytes_of_cells}
use Rattle.z80_draft.specs.Outside.{Outside}

abbrev pub FirstKnownFits : Type 0
FirstKnownFits =
    (g : GroundView) (s : AbsState) (address : ℕ) (instr : Instr) (entry : Entry) (m : Seen) → IsRegs m.regs
    → m.regs.pc ≡ address → HoldsPairs s.pairs entry m.regs → HoldsFact s.flag m.regs → HoldsShape s.shape entry m.words
    → Fits g s (known_before address instr s) entry (value_in m) (draft_on (past (length (spelling instr)) m.regs)) m.words

abbrev pub ReadsFitBytes : Type 0
ReadsFitBytes =
    (g : GroundView) (c : ContextView) (armed : ℕ) → g.rom ≡ c.hardware.rom → g.map ≡ c.hardware.map
    → IsMap c.hardware.map → c.hardware.map.rom_len ≡ length c.hardware.rom → AreBytes c.hardware.rom → IsState c.state
    → IsEnv c.env → HoldsCells armed g.cells (bytes_of_cells g.cells c.state) → ReadsFit g (outside_of c) armed

abbrev pub ReadsFitWords : Type 0
ReadsFitWords =
    (g : GroundView) (o : Outside) (armed : ℕ) (is_later : Bool) (at : ℕ) → ReadsFit g o armed
    → word_read o is_later at < 65536
