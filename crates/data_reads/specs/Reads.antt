-- The data reads of each instruction.
use Rattle.std.specs.Prelude.{List, [], ◌∷◌, Option, Some, None}
use Rattle.z80_decode.specs.declared.instr.Instr.{Instr}
use Rattle.z80_decode.specs.declared.instr.Instr.TheVariants.{LoadRegister, LoadA, LoadPairDirect, BlockLoad, BlockCompare, Arithmetic, Increment, Decrement, Shift, RotateDigitsLeft, RotateDigitsRight, TestBit, SetBit, ResetBit}
use Rattle.z80_decode.specs.declared.operands.Address.{Address}
use Rattle.z80_decode.specs.declared.operands.Address.TheVariants as addresses
use Rattle.z80_decode.specs.declared.operands.Index.TheVariants as indexes
use Rattle.z80_decode.specs.declared.operands.Memory.{Memory}
use Rattle.z80_decode.specs.declared.operands.Memory.TheVariants as memories
use Rattle.z80_decode.specs.declared.operands.Operand.TheVariants as operands
use Rattle.z80_decode.specs.declared.operands.Place.{Place}
use Rattle.z80_decode.specs.declared.operands.Place.TheVariants as places
use Rattle.z80_draft.specs.Draft.{above}
use Rattle.intervals.specs.Range.{RangeView, single}
use Rattle.intervals.specs.Sums.{displacement}
use Rattle.abs_state.specs.declared.pairs.Pairs.{Pairs}

-- ---- the addresses of an operand

-- (HL), (IX+d), (IY+d)
abbrev pub memory_addresses : Memory → Pairs → RangeView
memory_addresses memories.AtHl p = p.hl.word
memory_addresses (memories.At indexes.Ix d) p = displacement p.ix.word d
memory_addresses (memories.At indexes.Iy d) p = displacement p.iy.word d

-- (BC), (DE), (nn)
abbrev pub pointed_addresses : Address → Pairs → RangeView
pointed_addresses addresses.Bc p = p.bc.word
pointed_addresses addresses.De p = p.de.word
pointed_addresses (addresses.Direct nn) p = single nn

-- ---- one range for each byte that is read

abbrev pub no_ranges : List (Option RangeView)
no_ranges = None ∷ None ∷ []

abbrev pub one_range : RangeView → List (Option RangeView)
one_range at = Some at ∷ None ∷ []

abbrev pub two_ranges : RangeView → RangeView → List (Option RangeView)
two_ranges low high = Some low ∷ Some high ∷ []

-- an operand: a register, or a byte in memory
abbrev pub place_ranges : Place → Pairs → List (Option RangeView)
place_ranges (places.Register r) p = no_ranges
place_ranges (places.Memory m) p = one_range (memory_addresses m p)

-- ---- the table

-- The addresses from which an instruction reads data, for registers in these ranges (UM0080, "Z80 Instruction
-- Description"). Its own bytes and the word at SP do not count.
unfoldable pub reads_of : Instr → Pairs → List (Option RangeView)
-- 8-bit loads
reads_of (LoadRegister r s) p = place_ranges s p
reads_of (LoadA address) p = one_range (pointed_addresses address p)
-- 16-bit loads
reads_of (LoadPairDirect dd nn) p = two_ranges (single nn) (single (above nn 1))
-- block transfer, block search: one turn reads one byte
reads_of (BlockLoad kind) p = one_range p.hl.word
reads_of (BlockCompare kind) p = one_range p.hl.word
-- 8-bit arithmetic and logic
reads_of (Arithmetic kind (operands.Place s)) p = place_ranges s p
reads_of (Increment m) p = place_ranges m p
reads_of (Decrement m) p = place_ranges m p
-- rotate and shift
reads_of (Shift kind m) p = place_ranges m p
reads_of RotateDigitsLeft p = one_range p.hl.word
reads_of RotateDigitsRight p = one_range p.hl.word
-- bit set, reset and test
reads_of (TestBit b m) p = place_ranges m p
reads_of (SetBit b m) p = place_ranges m p
reads_of (ResetBit b m) p = place_ranges m p
-- stores, registers alone, jumps, the stack, input and output
reads_of _ p = no_ranges
