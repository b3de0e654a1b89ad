use Rattle.abs_state.specs.Holds.{Holds}
use Rattle.abs_state.specs.declared.state.AbsState.{AbsState}
use Rattle.abs_state.proofs.Told.{told}
use Rattle.abs_state.proofs.TightenHolds.{tightened_holds}
use Rattle.abs_state.proofs.state.AbsState.tighten.Goals as goal

pub returns-else-is_empty-clause-holds : goal.returns-else-is_empty-clause-holds
returns-else-is_empty-clause-holds c cells entry m i h e =
    told c.tighten.result _ c.tighten.new.state (λ (t : AbsState). Holds t cells entry m) c.tighten.ensures.exact
    (tightened_holds cells entry m i c.args.fact.now c.terms.ensures.linear e c.args.self.now h)
