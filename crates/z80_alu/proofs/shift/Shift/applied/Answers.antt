use Rattle.z80_alu.specs.Shift.{shifted, shifted_out}
use Rattle.z80_alu.proofs.BitTests.{has_bit-masked}
use Rattle.z80_alu.proofs.ByteTables.{shifted-Rlc, shifted-Rrc, shifted-Rl, shifted-Rr, shifted-Sla, shifted-Sra}
use Rattle.z80_alu.proofs.shift.Shift.applied.Goals as goal

pub returns-in-Rlc-clause-value : goal.returns-in-Rlc-clause-value
returns-in-Rlc-clause-value c =
    let value = shifted-Rlc c.args.value c.args.carry c.ranges.value.fits in
    cc

pub returns-in-Rlc-clause-out : goal.returns-in-Rlc-clause-out
unfolding shifted_out
returns-in-Rlc-clause-out c =
    let out = has_bit-masked c.args.value 7 in
    cc

pub returns-in-Rrc-clause-value : goal.returns-in-Rrc-clause-value
returns-in-Rrc-clause-value c =
    let value = shifted-Rrc c.args.value c.args.carry c.ranges.value.fits in
    cc

pub returns-in-Rrc-clause-out : goal.returns-in-Rrc-clause-out
unfolding shifted_out
returns-in-Rrc-clause-out c =
    let out = has_bit-masked c.args.value 0 in
    cc

pub returns-in-Rl-clause-value : goal.returns-in-Rl-clause-value
returns-in-Rl-clause-value c =
    let value = shifted-Rl c.args.value c.args.carry c.ranges.value.fits in
    cc

pub returns-in-Rl-clause-out : goal.returns-in-Rl-clause-out
unfolding shifted_out
returns-in-Rl-clause-out c =
    let out = has_bit-masked c.args.value 7 in
    cc

pub returns-in-Rr-clause-value : goal.returns-in-Rr-clause-value
returns-in-Rr-clause-value c =
    let value = shifted-Rr c.args.value c.args.carry c.ranges.value.fits in
    cc

pub returns-in-Rr-clause-out : goal.returns-in-Rr-clause-out
unfolding shifted_out
returns-in-Rr-clause-out c =
    let out = has_bit-masked c.args.value 0 in
    cc

pub returns-in-Sla-clause-value : goal.returns-in-Sla-clause-value
returns-in-Sla-clause-value c =
    let value = shifted-Sla c.args.value c.args.carry in
    cc

pub returns-in-Sla-clause-out : goal.returns-in-Sla-clause-out
unfolding shifted_out
returns-in-Sla-clause-out c =
    let out = has_bit-masked c.args.value 7 in
    cc

pub returns-in-Sra-clause-value : goal.returns-in-Sra-clause-value
returns-in-Sra-clause-value c =
    let value = shifted-Sra c.args.value c.args.carry c.ranges.value.fits in
    cc

pub returns-in-Sra-clause-out : goal.returns-in-Sra-clause-out
unfolding shifted_out
returns-in-Sra-clause-out c =
    let out = has_bit-masked c.args.value 0 in
    cc

pub returns-in-Srl-clause-value : goal.returns-in-Srl-clause-value
unfolding shifted
returns-in-Srl-clause-value c = cc

pub returns-in-Srl-clause-out : goal.returns-in-Srl-clause-out
unfolding shifted_out
returns-in-Srl-clause-out c =
    let out = has_bit-masked c.args.value 0 in
    cc
