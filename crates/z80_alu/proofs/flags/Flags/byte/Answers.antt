use Rattle.z80_alu.specs.Flags.{flags_byte}
use Rattle.z80_alu.proofs.BitTests.{byte_of_bits}
use Rattle.z80_alu.proofs.flags.Flags.byte.Goals as goal

pub returns : goal.returns
unfolding flags_byte
returns c =
    let f = c.args.self in
    let joined = byte_of_bits f.sign f.zero f.bit5 f.half_carry f.bit3 f.parity_overflow f.subtract f.carry in
    cc
