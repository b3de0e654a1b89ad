use Rattle.abs_state.proofs.Told.{on_ok}
use Rattle.abs_state.proofs.state.AbsState.push.Goals as goal

pub returns-clause-holds : goal.returns-clause-holds
returns-clause-holds c cells entry m word h k =
    on_ok c.push.result _ _ (c.push.ensures.holds entry m.words word h.shape k)
    (λ shape. record { mode = h.mode; cells_hold = h.cells_hold; pairs = h.pairs; flag = h.flag; shape = shape })
