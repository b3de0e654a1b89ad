use Rattle.std.proofs.Common.{subst, sym}
use Rattle.abs_state.specs.Holds.{Holds}
use Rattle.abs_state.specs.declared.state.AbsState.{AbsState}
use Rattle.refined_step.proofs.conditionals.narrowed_state.Goals as goal

pub returns-then-narrow-clause-holds : goal.returns-then-narrow-clause-holds
returns-then-narrow-clause-holds c = λ cells entry m i h seen met.
    let start : Holds c.copied-left.result cells entry m = subst (λ (s : AbsState). Holds s cells entry m) (sym c.copied-left.ensures) h in
    (c.if-narrow.ensures.holds cells entry m i start seen met).1

pub returns-else-narrow-clause-holds : goal.returns-else-narrow-clause-holds
returns-else-narrow-clause-holds c = λ cells entry m i h seen met.
    let start : Holds c.copied-left.result cells entry m = subst (λ (s : AbsState). Holds s cells entry m) (sym c.copied-left.ensures) h in
    let some = (c.if-narrow.ensures.holds cells entry m i start seen met).0 in
    absurd (cc)
