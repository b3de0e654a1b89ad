use Rattle.std.proofs.Common.{◌↔◌, IsTrue, subst}
use Rattle.check_claims.specs.Claims.{IsClaimedFact}
use Rattle.check_claims.specs.Source.{StepSourceView}
use Rattle.check_claims.proofs.TruthLemmas.{fact_true}
use Rattle.check_claims.proofs.source.StepSource.knows_fact.Goals as goal

pub returns-clause-exact : goal.returns-clause-exact
returns-clause-exact c = subst (λ (s : StepSourceView). IsTrue c.becomes_zero_either_way.result ↔ IsClaimedFact s c.args.fact.now) c.self.view_is c.becomes_zero_either_way.ensures

pub returns-clause-true_after : goal.returns-clause-true_after
returns-clause-true_after c = λ t x y source come.
    let exact : IsTrue c.becomes_zero_either_way.result ↔ IsClaimedFact c.args.self.now c.args.fact.now = subst (λ (s : StepSourceView). IsTrue c.becomes_zero_either_way.result ↔ IsClaimedFact s c.args.fact.now) c.self.view_is c.becomes_zero_either_way.ensures in
    fact_true c.args.self.now x y source c.args.fact.now (exact.0 t) come
