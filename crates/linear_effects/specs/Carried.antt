-- The values of A after ADC and SBC where the carry is known (docs/CHECKER.md, "Linear effects").
use Rattle.std.specs.Prelude.{◌≡◌, ℕ, ◌+◌, ◌-◌, ◌/◌, ◌%◌, ◌==◌, if◌then◌else◌, Bool, Option, Some, None, IfSome}
use Rattle.std.specs.Int.{from_bool}
use Rattle.intervals.specs.Domain.{Entry}
use Rattle.intervals.specs.Range.{RangeView, Within, between}
use Rattle.loop_bounds.specs.declared.variable.Variable.TheVariants as variables
use Rattle.z80_decode.specs.declared.instr.Instr.{Instr}
use Rattle.z80_decode.specs.declared.instr.Instr.TheVariants.{Arithmetic}
use Rattle.z80_decode.specs.declared.kinds.ArithmeticKind.{ArithmeticKind}
use Rattle.z80_decode.specs.declared.kinds.ArithmeticKind.TheVariants.{Adc, Sbc}
use Rattle.z80_draft.specs.Draft.{draft_of}
use Rattle.z80_draft.specs.Outside.{Outside}
use Rattle.abs_state.specs.Seen.{Seen}
use Rattle.abs_state.specs.Variables.{value_in}
use Rattle.abs_state.specs.declared.pairs.Pairs.{Pairs}
use Rattle.linear_effects.specs.ByteEffects.{operand_range}
use Rattle.linear_effects.specs.Effects.{IsDescribed}

-- the residues of the numbers from low to high, if they lie in one window
abbrev pub residues : ℕ → ℕ → Option RangeView
residues low high = if low / 256 == high / 256 then between (low % 256) (high % 256) else None

-- A + x + k; 256 + A - x - k
abbrev pub carried_by : ArithmeticKind → RangeView → RangeView → Bool → Option RangeView
carried_by Adc a b k = residues (a.low + b.low + from_bool k) (a.high + b.high + from_bool k)
carried_by Sbc a b k = residues (256 + a.low - b.high - from_bool k) (256 + a.high - b.low - from_bool k)
carried_by _ a b k = None

abbrev pub carried_if : ArithmeticKind → RangeView → RangeView → Option Bool → Option RangeView
carried_if kind a b (Some k) = carried_by kind a b k
carried_if kind a b None = None

-- the values of A after an instruction, given the ranges of the pairs and of the byte in work, and the carry, if it is known
unfoldable pub carried_range : Instr → Pairs → RangeView → Option Bool → Option RangeView
carried_range (Arithmetic kind s) pairs byte carry = carried_if kind pairs.af.high (operand_range s pairs byte) carry
carried_range _ pairs byte carry = None

-- A lies in the range, if there is one, after the draft of each machine that is as described
unfoldable pub IsTrueRange : Option RangeView → Instr → Pairs → RangeView → Option Bool → Type 0
IsTrueRange range instr pairs byte carry =
    IfSome range (λ r. (o : Outside) (entry : Entry) (m : Seen) → IsDescribed instr pairs byte carry o entry m
    → (n : Seen) → n.regs ≡ (draft_of o m.regs instr).regs → Within r (value_in n variables.A))
