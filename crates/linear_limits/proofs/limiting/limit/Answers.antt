use Rattle.std.proofs.Common.{◌≡◌, ◌∙◌, true, rules}
use Rattle.linear_limits.proofs.LimitLemmas.{reaches_keep}
use Rattle.linear_limits.proofs.limiting.limit.Goals as goal

pub returns-else-reaches_side-clause-keeps : goal.returns-else-reaches_side-clause-keeps
returns-else-reaches_side-clause-keeps g c = λ x h on.
    let s = c.args.state.now in
    let there : c.reaches_side.result ≡ true = c.reaches_side.ensures ∙ reaches_keep c.args.side c.args.linear.now (g.S.Ranges.range_of s) x (λ v. g.met.S.Tightenable.in_ranges s x v h) on in
    absurd (search rules)
