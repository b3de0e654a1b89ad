use Rattle.std.proofs.Common.{◌≡◌, sym, Some}
use Rattle.abs_state.specs.Mode.{hull_of_modes}
use Rattle.abs_state.proofs.CoverLemmas.{join_covers, join_holds}
use Rattle.abs_state.proofs.state.AbsState.join.Goals as goal

pub returns-clause-covers : goal.returns-clause-covers
returns-clause-covers c =
    let shape = c.in_ok-shape.ensures.exact in
    let mode : hull_of_modes c.args.self.now.mode c.args.other.now.mode ≡ Some c.in_ok-mode.mode = sym c.in_ok-mode.ensures in
    rw c.join-3.ensures (rw c.hull_of_facts.ensures (rw c.min.ensures (rw shape.1
    (join_covers c.args.self.now c.args.other.now c.in_ok-mode.mode shape.0 mode))))

pub returns-clause-holds : goal.returns-clause-holds
returns-clause-holds c cells entry m h =
    let shape = c.in_ok-shape.ensures.exact in
    let mode : hull_of_modes c.args.self.now.mode c.args.other.now.mode ≡ Some c.in_ok-mode.mode = sym c.in_ok-mode.ensures in
    rw c.join-3.ensures (rw c.hull_of_facts.ensures (rw c.min.ensures (rw shape.1
    (join_holds c.args.self.now c.args.other.now c.in_ok-mode.mode cells entry m shape.0 mode h))))
