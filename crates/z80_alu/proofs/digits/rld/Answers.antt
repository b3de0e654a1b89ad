use Rattle.std.proofs.Common.{ap, ◌∙◌}
use Rattle.z80_alu.specs.Flags.{flags_byte}
use Rattle.z80_alu.specs.Digits.{rotate_digit_flags}
use Rattle.z80_alu.proofs.ByteTables.{high_and_high, low_and_low}
use Rattle.z80_alu.proofs.digits.rld.Goals as goal

pub returns-clause-a : goal.returns-clause-a
returns-clause-a c = high_and_high c.args.a c.args.byte c.ranges.a.fits c.ranges.byte.fits

pub returns-clause-byte : goal.returns-clause-byte
returns-clause-byte c = low_and_low c.args.a c.args.byte

pub returns-clause-flags : goal.returns-clause-flags
returns-clause-flags c =
    c.digit_flags.ensures ∙ ap (λ a. flags_byte (rotate_digit_flags a c.args.f c.args.noise)) (high_and_high c.args.a c.args.byte c.ranges.a.fits c.ranges.byte.fits)
