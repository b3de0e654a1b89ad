use Rattle.std.proofs.Common.{◌+◌, ◌%◌, false, ltb, ◌∙◌}
use Rattle.std.proofs.lemmas.Nat.{and_mask}
use Rattle.z80_alu.specs.Flags.{flags_byte}
use Rattle.z80_alu.specs.Words.{sum16_flags}
use Rattle.z80_alu.proofs.WordCarries.{half_carry_of_plain_sum16}
use Rattle.z80_alu.proofs.words.add16.Goals as goal

pub returns-clause-flags : goal.returns-clause-flags
unfolding sum16_flags
returns-clause-flags c =
    let half = half_carry_of_plain_sum16 c.args.a c.args.b _ (and_mask (c.from.result + c.from-2.result) 16 ∙ (λ i. (c.from.ensures i + c.from-2.ensures i) % 65536)) in
    c.byte.ensures ∙ (λ i. flags_byte (record (c.kept.ensures i) { half_carry = half i; subtract = false; carry = ltb 65535 (c.from.ensures i + c.from-2.ensures i) }))
