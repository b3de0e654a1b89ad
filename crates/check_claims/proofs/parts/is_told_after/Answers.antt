use Rattle.std.proofs.Common.{◌≡◌, true, false, refl, sym, subst, arith}
use Rattle.abs_state.specs.Variables.{range_of}
use Rattle.flag_letters.specs.declared.part.FlagPart.{FlagPart}
use Rattle.check_claims.specs.Claims.{IsConveyed, IsConveyedBy, TellsAfter}
use Rattle.check_claims.proofs.Lists.{also_of_next}
use Rattle.check_claims.proofs.parts.is_told_after.Goals as goal

never : false ≡ true → ⊥
never e = cc

pub returns-then-is_conveyed_after : goal.returns-then-is_conveyed_after
returns-then-is_conveyed_after c = (
  λ t. record {
    condition = c.condition-item.result;
    listed = (c.loop-condition.condition-index, c.loop-condition-test.true, sym c.condition-item.is);
    by = c.if-is_conveyed_after.ensures.0 t;
  },
  λ _. refl,
)

pub loop-condition-preserved : goal.loop-condition-preserved
loop-condition-preserved c =
    also_of_next (λ (condition : FlagPart). IsConveyedBy c.args.part.now.letter (TellsAfter (range_of c.args.after.now) c.args.part.now.linear) condition → ⊥)
    c.args.conditions.now c.loop-condition.condition-index c.condition-item.result c.loop-condition.invariant c.loop-condition-test.true c.condition-item.is
    (λ b. never (c.if-is_conveyed_after.ensures.1 b))

pub returns : goal.returns
returns c = ((λ e. absurd (never e)), λ known. absurd (neither known))
  where
    neither : IsConveyed c.args.part.now.letter (TellsAfter (range_of c.args.after.now) c.args.part.now.linear) c.args.conditions.now → ⊥
    neither from =
        let (k, within, is) = from.listed in
        c.loop-condition.invariant k from.condition (omega (arith, c.loop-condition-test.false))
        (subst (λ (condition : FlagPart). IsConveyedBy c.args.part.now.letter (TellsAfter (range_of c.args.after.now) c.args.part.now.linear) condition) (sym is) from.by)
