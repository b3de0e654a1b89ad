-- The range of A after ADC and SBC is true of the draft.
use Rattle.std.proofs.Common.{◌≡◌, Bool, Option, Some, None, length, sym, subst}
use Rattle.std.specs.Prelude.{IfSome}
use Rattle.intervals.specs.Range.{RangeView, Within}
use Rattle.loop_bounds.specs.declared.variable.Variable.TheVariants as variables
use Rattle.z80_decode.specs.Spelling.{spelling}
use Rattle.z80_decode.specs.declared.instr.Instr.{Instr}
use Rattle.z80_draft.specs.Draft.{draft_of}
use Rattle.abs_state.specs.Seen.{Seen}
use Rattle.abs_state.specs.Variables.{value_in}
use Rattle.abs_state.specs.declared.pairs.Pairs.{Pairs}
use Rattle.linear_effects.specs.Carried.{IsTrueRange, carried_range}
use Rattle.linear_effects.proofs.Each.{Described, each_ranged, gather}

opened : (range : Option RangeView) (instr : Instr) (pairs : Pairs) (byte : RangeView) (carry : Option Bool)
    → IfSome range (λ r. (y : Described instr pairs byte carry) → (n : Seen) → n.regs ≡ (draft_of y.o y.m.regs instr).regs → Within r (value_in n variables.A)) → IsTrueRange range instr pairs byte carry
unfolding IsTrueRange
opened None instr pairs byte carry h = tt
opened (Some r) instr pairs byte carry h = λ o entry m d. h (record { o = o; entry = entry; m = m; described = d })

ranges_true : (instr : Instr) (pairs : Pairs) (byte : RangeView) (carry : Option Bool) → IsTrueRange (carried_range instr pairs byte carry) instr pairs byte carry
ranges_true instr pairs byte carry =
    opened (carried_range instr pairs byte carry) instr pairs byte carry
    (gather {X = RangeView} {Y = Described instr pairs byte carry} (carried_range instr pairs byte carry) (λ y r. (n : Seen) → n.regs ≡ (draft_of y.o y.m.regs instr).regs → Within r (value_in n variables.A))
    (λ y. each_ranged y.o y.m y.described.regs pairs y.entry y.described.pairs_hold byte carry y.described.carry_is (length (spelling instr)) instr y.described.operand_byte y.described.operand_within))

-- ranges that are those of the table
pub table_ranges_true : (range : Option RangeView) (instr : Instr) (pairs : Pairs) (byte : RangeView) (carry : Option Bool) → range ≡ carried_range instr pairs byte carry → IsTrueRange range instr pairs byte carry
table_ranges_true range instr pairs byte carry e = subst (λ (r : Option RangeView). IsTrueRange r instr pairs byte carry) (sym e) (ranges_true instr pairs byte carry)
