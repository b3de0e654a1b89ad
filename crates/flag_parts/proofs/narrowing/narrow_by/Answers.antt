use Rattle.abs_state.proofs.Told.{told}
use Rattle.abs_state.specs.Holds.{Holds}
use Rattle.abs_state.specs.declared.state.AbsState.{AbsState}
use Rattle.flag_parts.specs.Narrowing.{IsAsSaid}
use Rattle.flag_parts.specs.declared.narrowing.ZeroTest.TheVariants.{IsZero, IsNotZero, LiesOn}
use Rattle.loop_bounds.specs.Effect.{whole}
use Rattle.loop_bounds.specs.Linear.{value}
use Rattle.abs_state.specs.Variables.{value_in}
use Rattle.flag_parts.proofs.Held.{limited_holds}
use Rattle.flag_parts.proofs.narrowing.narrow_by.Goals as goal

pub returns-in-LiesOn-clause-holds : goal.returns-in-LiesOn-clause-holds
returns-in-LiesOn-clause-holds c = λ cells entry m i h on.
    let there : IsAsSaid (LiesOn c.in-LiesOn.side) (value (whole (value_in m)) c.args.linear.now) = rw c.in-LiesOn.is at on in
    told c.limit.result _ c.limit.new.state (λ (t : AbsState). Holds t cells entry m) c.limit.ensures.exact
    (limited_holds cells entry m i c.in-LiesOn.side c.args.linear.now c.terms-terms.ensures.linear there c.args.state.now h)

pub returns-in-IsZero-clause-holds : goal.returns-in-IsZero-clause-holds
returns-in-IsZero-clause-holds c = λ cells entry m i h on.
    let there : IsAsSaid IsZero (value (whole (value_in m)) c.args.linear.now) = rw c.in-IsZero.is at on in
    c.restrict_to_zero.ensures.holds cells entry m i h there

pub returns-in-IsNotZero-clause-holds : goal.returns-in-IsNotZero-clause-holds
returns-in-IsNotZero-clause-holds c = λ cells entry m i h on.
    let there : IsAsSaid IsNotZero (value (whole (value_in m)) c.args.linear.now) = rw c.in-IsNotZero.is at on in
    c.exclude_zero.ensures.holds cells entry m i h there
