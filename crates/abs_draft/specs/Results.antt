-- The ranges and flag facts of operations (docs/CHECKER.md, "The window rule and the table of results").
use Rattle.std.specs.Prelude.{if◌then◌else◌, Option, Some, None}
use Rattle.intervals.specs.Logic.{conjunction, disjunction, exclusive_disjunction, halves, doubles, of_single, rotation_left, rotation_right, is_single}
use Rattle.intervals.specs.Range.{RangeView, single, full}
use Rattle.intervals.specs.Sums.{sum, sum_with_carry, difference, difference_with_carry}
use Rattle.z80_decode.specs.declared.kinds.AccumulatorRotate.{AccumulatorRotate}
use Rattle.z80_decode.specs.declared.kinds.AccumulatorRotate.TheVariants as rotates
use Rattle.z80_decode.specs.declared.kinds.ArithmeticKind.{ArithmeticKind}
use Rattle.z80_decode.specs.declared.kinds.ArithmeticKind.TheVariants as operations
use Rattle.z80_decode.specs.declared.kinds.ShiftKind.{ShiftKind}
use Rattle.z80_decode.specs.declared.kinds.ShiftKind.TheVariants as shifts
use Rattle.z80_decode.specs.declared.operands.Register8.TheVariants as registers
use Rattle.z80_moves.specs.declared.registers.ByteRegister.{ByteRegister}
use Rattle.z80_moves.specs.declared.registers.ByteRegister.TheVariants as bytes
use Rattle.abs_state.specs.declared.fact.FlagFact.{FlagFact}
use Rattle.abs_state.specs.declared.fact.FlagFact.TheVariants.{Zero, Compared}
use Rattle.abs_draft.specs.AbsDraft.{known_byte}
use Rattle.abs_draft.specs.declared.draft.AbsDraft.{AbsDraft}

-- A after an operation on A and a byte. SUB A and XOR A give 0.
abbrev pub arithmetic_range : ArithmeticKind → ByteRegister → AbsDraft → RangeView
arithmetic_range operations.Add r k = sum 256 k.state.pairs.af.high (known_byte r k)
arithmetic_range operations.Adc r k = sum_with_carry 256 k.state.pairs.af.high (known_byte r k)
arithmetic_range operations.Sub bytes.A k = single 0
arithmetic_range operations.Sub r k = difference 256 k.state.pairs.af.high (known_byte r k)
arithmetic_range operations.Sbc r k = difference_with_carry 256 k.state.pairs.af.high (known_byte r k)
arithmetic_range operations.And r k = conjunction k.state.pairs.af.high (known_byte r k)
arithmetic_range operations.Xor bytes.A k = single 0
arithmetic_range operations.Xor r k = exclusive_disjunction k.state.pairs.af.high (known_byte r k)
arithmetic_range operations.Or r k = disjunction k.state.pairs.af.high (known_byte r k)
arithmetic_range operations.Compare r k = k.state.pairs.af.high

-- a byte after a shift or rotate after the prefix CB
abbrev pub shift_range : ShiftKind → RangeView → RangeView
shift_range shifts.Rlc range = of_single rotation_left range
shift_range shifts.Rrc range = of_single rotation_right range
shift_range shifts.Rl range = full 256
shift_range shifts.Rr range = full 256
shift_range shifts.Sla range = doubles range
shift_range shifts.Sra range = full 256
shift_range shifts.Srl range = halves range

-- A after a rotate of A with an opcode of one byte
abbrev pub rotate_range : AccumulatorRotate → RangeView → RangeView
rotate_range rotates.Rlca range = of_single rotation_left range
rotate_range rotates.Rrca range = of_single rotation_right range
rotate_range rotates.Rla range = full 256
rotate_range rotates.Rra range = full 256

-- the flag fact of INC and DEC of a register; none for a byte in memory
abbrev pub zero_fact : ByteRegister → Option FlagFact
zero_fact bytes.A = Some (Zero registers.A)
zero_fact bytes.F = None
zero_fact bytes.B = Some (Zero registers.B)
zero_fact bytes.C = Some (Zero registers.C)
zero_fact bytes.D = Some (Zero registers.D)
zero_fact bytes.E = Some (Zero registers.E)
zero_fact bytes.H = Some (Zero registers.H)
zero_fact bytes.L = Some (Zero registers.L)
zero_fact bytes.I = None
zero_fact bytes.Operand = None

-- the flag fact of CP with a byte of one value
abbrev pub compare_fact : RangeView → Option FlagFact
compare_fact range = if is_single range then Some (Compared range.low) else None
