use Rattle.std.proofs.Common.{arith, ◌≡◌, sym, ◌∙◌, false}
use Rattle.abs_state.specs.Holds.{Holds}
use Rattle.abs_state.specs.declared.state.AbsState.{AbsState}
use Rattle.abs_state.proofs.Told.{told}
use Rattle.abs_state.specs.Fact.{byte_in}
use Rattle.abs_state.specs.CutLaws.{byte_known}
use Rattle.std.proofs.lemmas.Bool.{eqb-true}
use Rattle.abs_state.proofs.state.AbsState.restrict_byte.Goals as goal

pub returns-then-is-clause-holds : goal.returns-then-is-clause-holds
returns-then-is-clause-holds c cells entry m i h e =
    let same : byte_in c.args.register m.regs ≡ c.args.byte = eqb-true _ _ (sym e ∙ c.if-is.true) in
    c.cut_byte.ensures.holds cells entry m i h (rw c.single.ensures (omega arith))

pub returns-else-is-clause-holds : goal.returns-else-is-clause-holds
returns-else-is-clause-holds c cells entry m i h e =
    told c.exclude_byte.result _ c.exclude_byte.new.self (λ (t : AbsState). Holds t cells entry m) c.exclude_byte.ensures.exact
    (byte_known c.args.self.now cells entry m i h false c.args.register c.args.byte (sym c.if-is.false ∙ e))
