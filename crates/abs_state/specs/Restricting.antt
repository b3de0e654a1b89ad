-- Restricting: cuts of an abstract state, and what a condition says (docs/CHECKER.md, "What a row knows").
use Rattle.std.specs.Prelude.{ℕ, ◌-◌, ◌==◌, Bool, true, false, not, if◌then◌else◌, Option, Some, None, option_map}
use Rattle.intervals.specs.Pair.{with_word_cut, with_high_cut, with_low_cut}
use Rattle.intervals.specs.Range.{RangeView, single, intersection, without}
use Rattle.intervals.specs.declared.pair.Pair.{Pair}
use Rattle.intervals.specs.declared.reg_pair.RegPair.{RegPair}
use Rattle.intervals.specs.declared.reg_pair.RegPair.TheVariants.{Af, Bc, De, Hl}
use Rattle.z80_decode.specs.declared.kinds.Condition.{Condition}
use Rattle.z80_decode.specs.declared.kinds.Condition.TheVariants as conditions
use Rattle.z80_decode.specs.declared.operands.Register8.{Register8}
use Rattle.z80_decode.specs.declared.operands.Register8.TheVariants.{A, B, C, D, E, H, L}
use Rattle.abs_state.specs.Pairs.{pair_of, with_pair}
use Rattle.abs_state.specs.declared.fact.FlagFact.{FlagFact}
use Rattle.abs_state.specs.declared.fact.FlagFact.TheVariants.{Zero, Compared}
use Rattle.abs_state.specs.declared.state.AbsState.{AbsState}

-- a cut of a range, if anything is left
abbrev pub Cut : Type 0
Cut = RangeView → Option RangeView

-- the cut to another range
abbrev pub to_range : RangeView → Cut
to_range to range = intersection range to

-- the cut of one value from the ends
abbrev pub to_all_but : ℕ → Cut
to_all_but value range = without range value

-- A pair is cut, if anything is left. The origin and the flag fact stay.
abbrev pub with_cut_pair : RegPair → Option Pair → AbsState → Option AbsState
with_cut_pair r cut s = option_map (λ pair. record s { pairs = with_pair r pair s.pairs }) cut

-- a register is cut
abbrev pub cut_byte : Register8 → Cut → AbsState → Option AbsState
cut_byte A cut s = with_cut_pair Af (with_high_cut s.pairs.af (cut s.pairs.af.high)) s
cut_byte B cut s = with_cut_pair Bc (with_high_cut s.pairs.bc (cut s.pairs.bc.high)) s
cut_byte C cut s = with_cut_pair Bc (with_low_cut s.pairs.bc (cut s.pairs.bc.low)) s
cut_byte D cut s = with_cut_pair De (with_high_cut s.pairs.de (cut s.pairs.de.high)) s
cut_byte E cut s = with_cut_pair De (with_low_cut s.pairs.de (cut s.pairs.de.low)) s
cut_byte H cut s = with_cut_pair Hl (with_high_cut s.pairs.hl (cut s.pairs.hl.high)) s
cut_byte L cut s = with_cut_pair Hl (with_low_cut s.pairs.hl (cut s.pairs.hl.low)) s

-- the word of a pair is cut
abbrev pub cut_word : RegPair → Cut → AbsState → Option AbsState
cut_word r cut s = with_cut_pair r (with_word_cut (pair_of r s.pairs) (cut (pair_of r s.pairs).word)) s

-- the register is this byte, or it is not
abbrev pub byte_is : Bool → Register8 → ℕ → AbsState → Option AbsState
byte_is true r byte s = cut_byte r (to_range (single byte)) s
byte_is false r byte s = cut_byte r (to_all_but byte) s

-- the pair is this word, or it is not
abbrev pub word_is : Bool → RegPair → ℕ → AbsState → Option AbsState
word_is true r word s = cut_word r (to_range (single word)) s
word_is false r word s = cut_word r (to_all_but word) s

-- A is below a byte, or it is not. Nothing is below 0.
abbrev pub a_is_below : Bool → ℕ → AbsState → Option AbsState
a_is_below true byte s = if byte == 0 then None else cut_byte A (to_range (record { low = 0; high = byte - 1 })) s
a_is_below false byte s = cut_byte A (to_range (record { low = byte; high = 255 })) s

-- Z is set, or it is not
abbrev pub zero_is : Bool → Option FlagFact → AbsState → Option AbsState
zero_is set None s = Some s
zero_is set (Some (Zero r)) s = byte_is set r 0 s
zero_is set (Some (Compared byte)) s = byte_is set A byte s

-- C is set, or it is not
abbrev pub carry_is : Bool → Option FlagFact → AbsState → Option AbsState
carry_is set None s = Some s
carry_is set (Some (Zero r)) s = Some s
carry_is set (Some (Compared byte)) s = a_is_below set byte s

-- a condition holds, or it does not; the flag fact restricts its register
abbrev pub condition_is : Bool → Condition → AbsState → Option AbsState
condition_is met conditions.Zero s = zero_is met s.flag s
condition_is met conditions.NotZero s = zero_is (not met) s.flag s
condition_is met conditions.Carry s = carry_is met s.flag s
condition_is met conditions.NotCarry s = carry_is (not met) s.flag s
condition_is met conditions.ParityOdd s = Some s
condition_is met conditions.ParityEven s = Some s
condition_is met conditions.Plus s = Some s
condition_is met conditions.Minus s = Some s
