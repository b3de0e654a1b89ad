-- The variables of linears in an abstract state: ranges, cuts and values (docs/CHECKER.md, "Linear bounds, effects and
-- tightening").
use Rattle.std.specs.Prelude.{ℕ, ◌/◌, ◌%◌, ◌≡◌, nat_lt, if◌then◌else◌, List, length, get_or, slice_set, slice_index, Option, Some, option_map}
use Rattle.intervals.specs.Domain.{Entry}
use Rattle.intervals.specs.Pair.{full_pair, with_word_cut, with_high_cut, with_low_cut}
use Rattle.intervals.specs.Range.{RangeView}
use Rattle.intervals.specs.declared.pair.Pair.{Pair}
use Rattle.intervals.specs.declared.reg_pair.RegPair.TheVariants as pairs
use Rattle.loop_bounds.specs.declared.variable.Part.{Part}
use Rattle.loop_bounds.specs.declared.variable.Part.TheVariants.{Word, High, Low}
use Rattle.loop_bounds.specs.declared.variable.Variable.{Variable}
use Rattle.loop_bounds.specs.declared.variable.Variable.TheVariants.{A, B, C, D, E, H, L, Bc, De, Hl, Ix, Iy, Slot}
use Rattle.stack_shape.specs.declared.slot.Slot.{Slot as ShapeSlot}
use Rattle.z80_decode.specs.declared.operands.Register8.TheVariants as registers
use Rattle.z80_draft.specs.Registers.{IsRegs}
use Rattle.abs_state.specs.Fact.{byte_in}
use Rattle.abs_state.specs.Holds.{Holds}
use Rattle.abs_state.specs.Restricting.{to_range, cut_byte, cut_word}
use Rattle.abs_state.specs.Pairs.{word_in}
use Rattle.abs_state.specs.Registers.{byte_of}
use Rattle.abs_state.specs.Seen.{Seen}
use Rattle.abs_state.specs.declared.cell.KeptCell.{KeptCell}
use Rattle.abs_state.specs.declared.state.AbsState.{AbsState}

-- the range of a part of a pair
abbrev pub part_range : Part → Pair → RangeView
part_range Word p = p.word
part_range High p = p.high
part_range Low p = p.low

-- a slot about which nothing is known, as past the shape
abbrev pub full_slot : ShapeSlot
full_slot = record { pair = full_pair }

-- the range of a variable; full for a slot past the shape
abbrev pub range_of : AbsState → Variable → RangeView
range_of s A = byte_of registers.A s.pairs
range_of s B = byte_of registers.B s.pairs
range_of s C = byte_of registers.C s.pairs
range_of s D = byte_of registers.D s.pairs
range_of s E = byte_of registers.E s.pairs
range_of s H = byte_of registers.H s.pairs
range_of s L = byte_of registers.L s.pairs
range_of s Bc = s.pairs.bc.word
range_of s De = s.pairs.de.word
range_of s Hl = s.pairs.hl.word
range_of s Ix = s.pairs.ix.word
range_of s Iy = s.pairs.iy.word
range_of s (Slot number part) = part_range part (get_or s.shape number full_slot).pair

-- a part of a pair is cut to a range
abbrev pub cut_part : Part → RangeView → Pair → Option Pair
cut_part Word to p = with_word_cut p (to_range to p.word)
cut_part High to p = with_high_cut p (to_range to p.high)
cut_part Low to p = with_low_cut p (to_range to p.low)

-- a slot is replaced
abbrev pub with_slot : ℕ → AbsState → Pair → AbsState
with_slot number s pair = record s { shape = slice_set s.shape number (record { pair = pair }) }

-- A slot is cut to a range. Past the shape there is nothing to cut.
abbrev pub cut_slot : ℕ → Part → RangeView → AbsState → Option AbsState
cut_slot number part to s =
    if nat_lt number (length s.shape) then option_map (with_slot number s) (cut_part part to (get_or s.shape number full_slot).pair)
    else Some s

-- a variable is cut to a range, if anything is left
abbrev pub cut_to : AbsState → Variable → RangeView → Option AbsState
cut_to s A to = cut_byte registers.A (to_range to) s
cut_to s B to = cut_byte registers.B (to_range to) s
cut_to s C to = cut_byte registers.C (to_range to) s
cut_to s D to = cut_byte registers.D (to_range to) s
cut_to s E to = cut_byte registers.E (to_range to) s
cut_to s H to = cut_byte registers.H (to_range to) s
cut_to s L to = cut_byte registers.L (to_range to) s
cut_to s Bc to = cut_word pairs.Bc (to_range to) s
cut_to s De to = cut_word pairs.De (to_range to) s
cut_to s Hl to = cut_word pairs.Hl (to_range to) s
cut_to s Ix to = cut_word pairs.Ix (to_range to) s
cut_to s Iy to = cut_word pairs.Iy (to_range to) s
cut_to s (Slot number part) to = cut_slot number part to s

-- a part of a word
abbrev pub part_of : Part → ℕ → ℕ
part_of Word word = word
part_of High word = word / 256
part_of Low word = word % 256

-- the value of a variable; 0 for a slot past the words
abbrev pub value_in : Seen → Variable → ℕ
value_in m A = byte_in registers.A m.regs
value_in m B = byte_in registers.B m.regs
value_in m C = byte_in registers.C m.regs
value_in m D = byte_in registers.D m.regs
value_in m E = byte_in registers.E m.regs
value_in m H = byte_in registers.H m.regs
value_in m L = byte_in registers.L m.regs
value_in m Bc = word_in pairs.Bc m.regs
value_in m De = word_in pairs.De m.regs
value_in m Hl = word_in pairs.Hl m.regs
value_in m Ix = word_in pairs.Ix m.regs
value_in m Iy = word_in pairs.Iy m.regs
value_in m (Slot number part) = part_of part (slice_index m.words number)

-- the values of some machine that the state describes
pub record HoldsValues (s : AbsState) (x : Variable → ℕ) : Type 0 where
  pub cells : List KeptCell
  pub entry : Entry
  pub seen : Seen
  pub regs : IsRegs seen.regs
  pub holds : Holds s cells entry seen
  pub values : (v : Variable) → x v ≡ value_in seen v
