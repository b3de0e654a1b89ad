use Rattle.abs_state.proofs.CoverLemmas.{state_covers_itself, state_covers_along, state_wider}
use Rattle.abs_state.proofs.state.AbsState.covers.Goals as goal

pub returns-clause-reflexive : goal.returns-clause-reflexive
returns-clause-reflexive c = λ e. c.covers_each.ensures.1 (state_covers_itself _ _ e)

pub returns-clause-transitive : goal.returns-clause-transitive
returns-clause-transitive c = λ t third k. state_covers_along _ _ third (c.covers_each.ensures.0 t) k

pub returns-clause-widens : goal.returns-clause-widens
returns-clause-widens c = λ t cells entry m h. state_wider _ _ cells entry m (c.covers_each.ensures.0 t) h
