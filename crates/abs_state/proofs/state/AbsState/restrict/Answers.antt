use Rattle.std.proofs.Common.{◌≡◌}
use Rattle.abs_state.specs.Holds.{Holds}
use Rattle.abs_state.specs.declared.state.AbsState.{AbsState}
use Rattle.abs_state.proofs.Told.{told}
use Rattle.abs_state.specs.CutLaws.{condition_known}
use Rattle.z80_alu.specs.Flags.{flags_of}
use Rattle.z80_draft.specs.Arithmetic.{holds}
use Rattle.z80_decode.specs.declared.kinds.Condition.TheVariants as conditions
use Rattle.abs_state.proofs.state.AbsState.restrict.Goals as goal

pub returns-in-Zero-clause-holds : goal.returns-in-Zero-clause-holds
returns-in-Zero-clause-holds c cells entry m i h e =
    let e' : c.args.met ≡ holds conditions.Zero (flags_of m.regs.main.f) = rw c.in-Zero.is at e in
    told c.restrict_zero.result _ c.restrict_zero.new.self (λ (t : AbsState). Holds t cells entry m) c.restrict_zero.ensures.exact
    (condition_known c.args.self.now cells entry m i h c.args.met conditions.Zero e')

pub returns-in-NotZero-clause-holds : goal.returns-in-NotZero-clause-holds
returns-in-NotZero-clause-holds c cells entry m i h e =
    let e' : c.args.met ≡ holds conditions.NotZero (flags_of m.regs.main.f) = rw c.in-NotZero.is at e in
    told c.restrict_zero-in-NotZero.result _ c.restrict_zero-in-NotZero.new.self (λ (t : AbsState). Holds t cells entry m) c.restrict_zero-in-NotZero.ensures.exact
    (condition_known c.args.self.now cells entry m i h c.args.met conditions.NotZero e')

pub returns-in-Carry-clause-holds : goal.returns-in-Carry-clause-holds
returns-in-Carry-clause-holds c cells entry m i h e =
    let e' : c.args.met ≡ holds conditions.Carry (flags_of m.regs.main.f) = rw c.in-Carry.is at e in
    told c.restrict_carry.result _ c.restrict_carry.new.self (λ (t : AbsState). Holds t cells entry m) c.restrict_carry.ensures.exact
    (condition_known c.args.self.now cells entry m i h c.args.met conditions.Carry e')

pub returns-in-NotCarry-clause-holds : goal.returns-in-NotCarry-clause-holds
returns-in-NotCarry-clause-holds c cells entry m i h e =
    let e' : c.args.met ≡ holds conditions.NotCarry (flags_of m.regs.main.f) = rw c.in-NotCarry.is at e in
    told c.restrict_carry-in-NotCarry.result _ c.restrict_carry-in-NotCarry.new.self (λ (t : AbsState). Holds t cells entry m) c.restrict_carry-in-NotCarry.ensures.exact
    (condition_known c.args.self.now cells entry m i h c.args.met conditions.NotCarry e')
