use Rattle.std.proofs.Common.{◌+◌, ◌-◌, arith}
use Rattle.std.specs.Int.{from_bool}
use Rattle.std.proofs.lemmas.Nat.{and_mask}
use Rattle.z80_alu.specs.Words.{difference16, carried_difference16_flags}
use Rattle.z80_alu.proofs.BitTests.{sign_of_word, from_bool_le}
use Rattle.z80_alu.proofs.WordCarries.{half_carry_of_difference16, overflow_of_difference16, borrow_of_difference16}
use Rattle.z80_alu.proofs.words.sbc16.Goals as goal

pub returns-clause-flags : goal.returns-clause-flags
unfolding carried_difference16_flags
returns-clause-flags c =
    let a = c.args.a in
    let b = c.args.b in
    let carry = from_bool c.args.carry in
    let value = and_mask (65536 + a - b - carry) 16 in
    let small = from_bool_le c.args.carry in
    let sign = sign_of_word (difference16 a b c.args.carry) (omega arith) in
    let half = half_carry_of_difference16 a b carry _ c.ranges.b.fits small value in
    let over = overflow_of_difference16 a b carry _ c.ranges.a.fits c.ranges.b.fits small value in
    let borrow = borrow_of_difference16 a b carry c.ranges.b.fits small in
    cc
