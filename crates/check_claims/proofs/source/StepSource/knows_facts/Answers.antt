use Rattle.std.proofs.Common.{◌≡◌, true, false, refl, sym, subst, arith}
use Rattle.check_claims.specs.Claims.{IsClaimedFact}
use Rattle.check_claims.proofs.Lists.{also_of_next}
use Rattle.check_claims.proofs.source.StepSource.knows_facts.Goals as goal

never : false ≡ true → ⊥
never e = cc

pub loop-fact-preserved : goal.loop-fact-preserved
loop-fact-preserved c =
    also_of_next (IsClaimedFact c.args.self.now) c.args.facts.now c.loop-fact.fact-index c.fact-item.result
    c.loop-fact.invariant c.loop-fact-test.true c.fact-item.is (c.if-not-knows_fact.ensures.exact.0 refl)

pub returns-then-not-knows_fact : goal.returns-then-not-knows_fact
returns-then-not-knows_fact c = (
  (λ e. absurd (never e)),
  λ all. absurd (never (c.if-not-knows_fact.ensures.exact.1 (subst (IsClaimedFact c.args.self.now) (sym c.fact-item.is) (all c.loop-fact.fact-index c.fact-item.result c.loop-fact-test.true)))),
)

pub returns : goal.returns
returns c = ((λ e k d within. c.loop-fact.invariant k d (omega (arith, within, c.loop-fact-test.false))), λ all. refl)
