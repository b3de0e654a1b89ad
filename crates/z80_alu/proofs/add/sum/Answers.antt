use Rattle.std.proofs.Common.{◌+◌, arith}
use Rattle.std.specs.Int.{from_bool}
use Rattle.std.proofs.lemmas.Nat.{and_mask}
use Rattle.z80_alu.specs.Add.{sum8, sum8_flags}
use Rattle.z80_alu.proofs.BitTests.{sign_of_byte, from_bool_le}
use Rattle.z80_alu.proofs.Carries.{half_carry_of_sum8, overflow_of_sum8}
use Rattle.z80_alu.proofs.add.sum.Goals as goal

pub returns-clause-flags : goal.returns-clause-flags
unfolding sum8_flags
returns-clause-flags c =
    let a = c.args.a in
    let b = c.args.b in
    let carry = from_bool c.args.carry in
    let value = and_mask (a + b + carry) 8 in
    let small = from_bool_le c.args.carry in
    let sign = sign_of_byte (sum8 a b c.args.carry) (omega arith) in
    let half = half_carry_of_sum8 a b carry _ small value in
    let over = overflow_of_sum8 a b carry _ c.ranges.a.fits c.ranges.b.fits small value in
    cc
