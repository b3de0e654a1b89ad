use Rattle.abs_state.specs.Holds.{Holds}
use Rattle.abs_state.specs.declared.state.AbsState.{AbsState}
use Rattle.abs_state.proofs.Told.{told}
use Rattle.abs_state.specs.CutLaws.{pair_put}
use Rattle.abs_state.proofs.state.AbsState.cut_word.Goals as goal

pub returns-clause-holds : goal.returns-clause-holds
returns-clause-holds c cells entry m h w =
    told c.put_cut.result _ c.put_cut.new.self (λ (t : AbsState). Holds t cells entry m) c.put_cut.ensures.exact
    (pair_put c.args.self.now cells entry m h c.args.of c.cut_word.result (c.cut_word.ensures.keeps entry _ (c.pair.ensures.holds cells entry m h) w))
