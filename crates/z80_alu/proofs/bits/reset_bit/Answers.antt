use Rattle.std.proofs.Common.{◌%◌, arith}
use Rattle.z80_alu.proofs.ByteTables.{bit_and-other_powers}
use Rattle.z80_alu.proofs.bits.reset_bit.Goals as goal

pub returns : goal.returns
returns c = bit_and-other_powers c.args.value (c.args.bit % 8) c.ranges.value.fits (omega arith)
