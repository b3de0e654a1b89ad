use Rattle.std.proofs.Common.{◌≡◌, true, false, ◌⊎◌, inl, inr, refl, sym, subst, arith}
use Rattle.abs_state.specs.Variables.{range_of}
use Rattle.loop_bounds.specs.Bounds.{Becomes, BecomesNegation}
use Rattle.loop_bounds.specs.Linear.{LinearView}
use Rattle.check_cover.specs.Covering.{IsKnownFact}
use Rattle.check_cover.proofs.Lists.{one_more}
use Rattle.check_cover.proofs.knowing.is_known.Goals as goal

never : false ≡ true → ⊥
never e = cc

pub returns-then-vanishes : goal.returns-then-vanishes
returns-then-vanishes c = (λ t. inl (c.if-vanishes.ensures.0 t), λ _. refl)

pub returns-then-becomes : goal.returns-then-becomes
returns-then-becomes c = (
  λ t. inr (record { given = c.given-item.result; known = (c.loop-given.given-index, c.loop-given-test.true, sym c.given-item.is); is = c.if-becomes.ensures.0 t }),
  λ _. refl,
)

pub loop-given-preserved : goal.loop-given-preserved
loop-given-preserved c =
    one_more (λ (given : LinearView). (Becomes c.args.fact.now c.args.effect.now (range_of c.args.before.now) given ⊎ BecomesNegation c.args.fact.now c.args.effect.now (range_of c.args.before.now) given) → ⊥)
    c.args.facts.now c.loop-given.given-index c.given-item.result c.loop-given.invariant c.loop-given-test.true c.given-item.is
    (λ b. never (c.if-becomes.ensures.1 b))

-- no given fact is the rewritten fact
pub returns : goal.returns
returns c = ((λ e. absurd (never e)), λ known. absurd (neither known))
  where
    neither : IsKnownFact c.args.facts.now c.args.before.now c.args.effect.now c.args.fact.now → ⊥
    neither (inl vanishes) = never (c.if-vanishes.ensures.1 vanishes)
    neither (inr from) =
        let (k, within, is) = from.known in
        c.loop-given.invariant k from.given (omega (arith, c.loop-given-test.false))
        (subst (λ (g : LinearView). Becomes c.args.fact.now c.args.effect.now (range_of c.args.before.now) g ⊎ BecomesNegation c.args.fact.now c.args.effect.now (range_of c.args.before.now) g) (sym is) from.is)
