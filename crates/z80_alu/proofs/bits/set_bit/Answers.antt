use Rattle.std.proofs.Common.{◌%◌, arith}
use Rattle.z80_alu.proofs.ByteTables.{bit_or-power}
use Rattle.z80_alu.proofs.bits.set_bit.Goals as goal

pub returns : goal.returns
returns c = bit_or-power c.args.value (c.args.bit % 8) c.ranges.value.fits (omega arith)
