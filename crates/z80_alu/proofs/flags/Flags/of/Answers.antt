use Rattle.z80_alu.specs.Flags.{flags_of}
use Rattle.z80_alu.proofs.BitTests.{has_bit-masked}
use Rattle.z80_alu.proofs.flags.Flags.of.Goals as goal

pub returns : goal.returns
unfolding flags_of
returns c =
    let byte = c.args.byte in
    let s = has_bit-masked byte 7 in
    let z = has_bit-masked byte 6 in
    let y = has_bit-masked byte 5 in
    let h = has_bit-masked byte 4 in
    let x = has_bit-masked byte 3 in
    let p = has_bit-masked byte 2 in
    let n = has_bit-masked byte 1 in
    let k = has_bit-masked byte 0 in
    cc
