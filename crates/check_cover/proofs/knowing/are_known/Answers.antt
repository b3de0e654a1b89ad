use Rattle.std.proofs.Common.{◌≡◌, true, false, refl, sym, subst, arith}
use Rattle.check_cover.specs.Covering.{IsKnownFact}
use Rattle.check_cover.proofs.Lists.{one_more}
use Rattle.check_cover.proofs.knowing.are_known.Goals as goal

never : false ≡ true → ⊥
never e = cc

pub loop-fact-preserved : goal.loop-fact-preserved
loop-fact-preserved c =
    one_more (IsKnownFact c.args.facts.now c.args.before.now c.args.effect.now) c.args.asked.now c.loop-fact.fact-index c.fact-item.result
    c.loop-fact.invariant c.loop-fact-test.true c.fact-item.is (c.if-not-is_known.ensures.0 refl)

pub returns-then-not-is_known : goal.returns-then-not-is_known
returns-then-not-is_known c = (
  (λ e. absurd (never e)),
  λ all. absurd (never (c.if-not-is_known.ensures.1 (subst (IsKnownFact c.args.facts.now c.args.before.now c.args.effect.now) (sym c.fact-item.is) (all c.loop-fact.fact-index c.fact-item.result c.loop-fact-test.true)))),
)

pub returns : goal.returns
returns c = ((λ e k d within. c.loop-fact.invariant k d (omega (arith, c.loop-fact-test.false, within))), λ all. refl)
