-- The linear effect of each instruction, and what it means that it is true (docs/CHECKER.md, "Linear effects").
use Rattle.std.specs.Prelude.{◌≡◌, ◌<◌, ◌≤◌, All, Bool, false, Option, Some, None, option_map, IfSome, pos, unsigned_abs}
use Rattle.intervals.specs.Domain.{Entry}
use Rattle.intervals.specs.Range.{RangeView, Within}
use Rattle.loop_bounds.specs.Effect.{whole}
use Rattle.loop_bounds.specs.Linear.{LinearView, value}
use Rattle.loop_bounds.specs.declared.variable.Variable.{Variable}
use Rattle.loop_bounds.specs.declared.variable.Variable.TheVariants as variables
use Rattle.z80_alu.specs.Flags.{flags_of}
use Rattle.z80_decode.specs.declared.instr.Instr.{Instr}
use Rattle.z80_decode.specs.declared.instr.Instr.TheVariants.{Arithmetic, Complement, Negate, AddHl, AdcHl, SbcHl, AddIndex}
use Rattle.z80_draft.specs.Draft.{DraftView, draft_of}
use Rattle.z80_draft.specs.Outside.{Outside}
use Rattle.z80_draft.specs.Registers.{IsRegs}
use Rattle.abs_state.specs.Pairs.{HoldsPairs}
use Rattle.abs_state.specs.Seen.{Seen}
use Rattle.abs_state.specs.Variables.{value_in}
use Rattle.abs_state.specs.declared.pairs.Pairs.{Pairs}
use Rattle.flag_conditions.specs.OperandTerm.{operand_term_of, variable_of_index, word_of_index_pair, word_of_pair}
use Rattle.linear_effects.specs.ByteEffects.{operand_range, arithmetic_effect, negate_effect, complemented}
use Rattle.linear_effects.specs.WordEffects.{index_range, word_sum_effect, word_difference_effect}
use Rattle.linear_effects.specs.declared.variable_effect.LinearEffect.{LinearEffect}

-- a variable becomes a linear
abbrev pub becoming : Variable → Option LinearView → Option LinearEffect
becoming v = option_map (λ s. record { variable = v; linear = s })

-- The variable that an instruction makes a linear of the variables before, given the ranges of the pairs and of the byte
-- in work, and the carry, if it is known.
unfoldable pub effect_of : Instr → Pairs → RangeView → Option Bool → Option LinearEffect
effect_of (Arithmetic kind s) pairs byte carry =
    becoming variables.A (arithmetic_effect kind (operand_term_of s byte) carry pairs.af.high (operand_range s pairs byte))
effect_of Complement pairs byte carry = becoming variables.A (Some complemented)
effect_of Negate pairs byte carry = becoming variables.A (negate_effect pairs.af.high)
effect_of (AddHl ss) pairs byte carry =
    becoming variables.Hl (word_sum_effect variables.Hl pairs.hl.word (word_of_pair ss) (Some false) pairs)
effect_of (AdcHl ss) pairs byte carry =
    becoming variables.Hl (word_sum_effect variables.Hl pairs.hl.word (word_of_pair ss) carry pairs)
effect_of (SbcHl ss) pairs byte carry =
    becoming variables.Hl (word_difference_effect variables.Hl pairs.hl.word (word_of_pair ss) carry pairs)
effect_of (AddIndex index pp) pairs byte carry =
    becoming (variable_of_index index) (word_sum_effect (variable_of_index index) (index_range index pairs) (word_of_index_pair pp) (Some false) pairs)
effect_of _ pairs byte carry = None

-- ---- their size

-- the coefficients of the linear are at most 256 in size
abbrev pub HasSlightTerms : LinearEffect → Type 0
HasSlightTerms effect = All (λ t. unsigned_abs t.coefficient ≤ 256) effect.linear.terms

-- ---- their truth

-- the machine is in range, and what the row says of it holds: its pairs, the carry, and the byte in work after the moves
pub record IsDescribed (instr : Instr) (pairs : Pairs) (byte : RangeView) (carry : Option Bool) (o : Outside) (entry : Entry) (m : Seen) : Type 0 where
  pub regs : IsRegs m.regs
  pub pairs_hold : HoldsPairs pairs entry m.regs
  pub carry_is : IfSome carry (λ c. (flags_of m.regs.main.f).carry ≡ c)
  pub operand_byte : (draft_of o m.regs instr).operand < 256
  pub operand_within : Within byte (draft_of o m.regs instr).operand

-- the value of the variable after the draft is that of the linear at the values before it
abbrev pub BecomesSo : LinearEffect → Seen → DraftView → Type 0
BecomesSo effect m d =
    (n : Seen) → n.regs ≡ d.regs → pos (value_in n effect.variable) ≡ value (whole (value_in m)) effect.linear

-- the effect, if there is one, is true of the draft of each machine that is as described
unfoldable pub IsTrueEffect : Option LinearEffect → Instr → Pairs → RangeView → Option Bool → Type 0
IsTrueEffect effect instr pairs byte carry =
    IfSome effect (λ e. (o : Outside) (entry : Entry) (m : Seen) → IsDescribed instr pairs byte carry o entry m → BecomesSo e m (draft_of o m.regs instr))
