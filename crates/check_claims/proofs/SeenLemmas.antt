-- The values that are seen of a machine.
use Rattle.std.proofs.Common.{◌≡◌, ℕ, ◌+◌, ◌*◌, ◌/◌, ◌%◌, pos, ◌+ℤ◌, ◌*ℤ◌, refl, arith, List}
use Rattle.std.specs.Prelude.{slice_index}
use Rattle.std.proofs.lemmas.Bool.{eqb-true}
use Rattle.std.proofs.lemmas.Int.{ints}
use Rattle.intervals.specs.Domain.{Entry}
use Rattle.intervals.specs.Range.{Within}
use Rattle.linear_sums.specs.Bytes.{AgreesWithBytes}
use Rattle.linear_sums.specs.Canon.{HasOneValues}
use Rattle.loop_bounds.specs.declared.variable.Part.TheVariants.{Word, High, Low}
use Rattle.loop_bounds.specs.declared.variable.Variable.TheVariants.{A, B, C, D, E, H, L, Bc, De, Hl, Ix, Iy, Slot}
use Rattle.z80_draft.specs.Registers.{IsRegs}
use Rattle.abs_state.specs.CutLaws.{variable_lies}
use Rattle.abs_state.specs.Holds.{Holds}
use Rattle.abs_state.specs.Seen.{Seen}
use Rattle.abs_state.specs.Variables.{range_of, value_in}
use Rattle.abs_state.specs.declared.cell.KeptCell.{KeptCell}
use Rattle.abs_state.specs.declared.state.AbsState.{AbsState}

-- the word of two bytes
of_bytes : (high low : ℕ) → pos (high * 256 + low) ≡ pos 256 *ℤ pos high +ℤ pos low
of_bytes high low = omega (arith, ints)

of_parts : (word : ℕ) → pos word ≡ pos 256 *ℤ pos (word / 256) +ℤ pos (word % 256)
of_parts word = omega (arith, ints)

-- each word that is seen has the value of its bytes
pub seen_agrees : (m : Seen) → AgreesWithBytes (value_in m)
seen_agrees m A = refl
seen_agrees m B = refl
seen_agrees m C = refl
seen_agrees m D = refl
seen_agrees m E = refl
seen_agrees m H = refl
seen_agrees m L = refl
seen_agrees m Bc = of_bytes m.regs.main.b m.regs.main.c
seen_agrees m De = of_bytes m.regs.main.d m.regs.main.e
seen_agrees m Hl = of_bytes m.regs.main.h m.regs.main.l
seen_agrees m Ix = refl
seen_agrees m Iy = refl
seen_agrees m (Slot number Word) = of_parts (slice_index m.words number)
seen_agrees m (Slot number High) = refl
seen_agrees m (Slot number Low) = refl

-- in a state that holds each one-valued variable has its value
pub seen_ones : (s : AbsState) (cells : List KeptCell) (entry : Entry) (m : Seen) → IsRegs m.regs → Holds s cells entry m → HasOneValues (range_of s) (value_in m)
seen_ones s cells entry m regs holds v e =
    let same : (range_of s v).low ≡ (range_of s v).high = eqb-true _ _ e in
    let lies : Within (range_of s v) (value_in m v) = variable_lies s cells entry m regs holds v in
    omega (arith, same, lies.0, lies.1)
