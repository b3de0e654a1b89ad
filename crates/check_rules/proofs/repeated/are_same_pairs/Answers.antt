use Rattle.check_rules.proofs.RepeatedLemmas.{same_pairs}
use Rattle.check_rules.proofs.repeated.are_same_pairs.Goals as goal

pub returns-then-covers : goal.returns-then-covers
returns-then-covers c = λ e.
    same_pairs c.args.pairs.now c.args.other.now (c.covers.ensures.0 c.if-covers.true) (c.covers-then-covers.ensures.0 e)
