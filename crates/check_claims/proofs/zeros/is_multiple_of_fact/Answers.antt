use Rattle.std.proofs.Common.{◌≡◌, true, false, refl, sym, subst, arith}
use Rattle.abs_state.specs.Variables.{range_of}
use Rattle.linear_sums.specs.Canon.{IsMultipleIn}
use Rattle.loop_bounds.specs.Linear.{LinearView}
use Rattle.check_claims.specs.Zeros.{IsMultipleOfFact}
use Rattle.check_claims.proofs.Lists.{also_of_next}
use Rattle.check_claims.proofs.zeros.is_multiple_of_fact.Goals as goal

never : false ≡ true → ⊥
never e = cc

pub returns-then-is_multiple : goal.returns-then-is_multiple
returns-then-is_multiple c = (
  λ t. record { given = c.fact-item.result; known = (c.loop-fact.fact-index, c.loop-fact-test.true, sym c.fact-item.is); is = c.if-is_multiple.ensures.0 t },
  λ _. refl,
)

pub loop-fact-preserved : goal.loop-fact-preserved
loop-fact-preserved c =
    also_of_next (λ (given : LinearView). IsMultipleIn (range_of c.args.before.now) c.args.sum.now given → ⊥)
    c.args.facts.now c.loop-fact.fact-index c.fact-item.result c.loop-fact.invariant c.loop-fact-test.true c.fact-item.is
    (λ b. never (c.if-is_multiple.ensures.1 b))

pub returns : goal.returns
returns c = ((λ e. absurd (never e)), λ known. absurd (neither known))
  where
    neither : IsMultipleOfFact c.args.facts.now (range_of c.args.before.now) c.args.sum.now → ⊥
    neither from =
        let (k, within, is) = from.known in
        c.loop-fact.invariant k from.given (omega (arith, c.loop-fact-test.false))
        (subst (λ (given : LinearView). IsMultipleIn (range_of c.args.before.now) c.args.sum.now given) (sym is) from.is)
