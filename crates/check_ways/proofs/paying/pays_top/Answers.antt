use Rattle.check_ways.proofs.TopLemmas.{pays_all}
use Rattle.check_ways.proofs.paying.pays_top.Goals as goal

pub returns-in-Some : goal.returns-in-Some
returns-in-Some c =
    λ yes.
    pays_all c.args.subject.now c.args.start c.args.end c.args.cost c.in-Some.top (c.in-Some.ensures {u = tt}) (c.row_pays_top.ensures.0 yes)
