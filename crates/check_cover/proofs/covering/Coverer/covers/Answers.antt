use Rattle.std.proofs.Common.{refl}
use Rattle.abs_state.proofs.CoverLemmas.{state_covers_itself}
use Rattle.check_cover.proofs.WholeLemmas.{covered_whole, hands_itself}
use Rattle.check_cover.proofs.covering.Coverer.covers.Goals as goal

pub returns-then-covers_whole-clause-exact : goal.returns-then-covers_whole-clause-exact
returns-then-covers_whole-clause-exact c =
    let s = c.args.state.now in
    let a = c.args.arrival.now in (
      (λ yes. covered_whole c.args.self.now a a s s (hands_itself a) (c.covers_whole.ensures.found c.if-covers_whole.true) (state_covers_itself s s refl)),
      (λ covered. c.if-covers_whole.true),
    )
