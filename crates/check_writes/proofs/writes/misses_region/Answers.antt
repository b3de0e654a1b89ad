use Rattle.address_map.specs.Ranges.{SomeInRegion}
use Rattle.check_writes.proofs.Lists.{not_true}
use Rattle.check_writes.proofs.writes.misses_region.Goals as goal

pub returns : goal.returns
returns c =
    let some = not_true c.some_in_region.result (SomeInRegion c.args.map.now c.args.write.now.at c.args.region) c.some_in_region.ensures in
    ((λ e at within folds. some.0 e (at, within, folds)), λ none. some.1 (λ s. none s.0 s.1 s.2))
