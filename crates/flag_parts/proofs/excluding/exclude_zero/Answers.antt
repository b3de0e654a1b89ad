use Rattle.abs_state.proofs.Told.{told}
use Rattle.abs_state.specs.Holds.{Holds}
use Rattle.abs_state.specs.declared.state.AbsState.{AbsState}
use Rattle.flag_parts.proofs.ExcludingLemmas.{not_zero_holds}
use Rattle.flag_parts.proofs.excluding.exclude_zero.Goals as goal

pub returns-clause-holds : goal.returns-clause-holds
returns-clause-holds c = λ cells entry m i h other.
    told c.cut_zero.result _ c.cut_zero.new.state (λ (t : AbsState). Holds t cells entry m) c.cut_zero.ensures
    (not_zero_holds cells entry m i c.args.state.now h c.args.linear.now other)
