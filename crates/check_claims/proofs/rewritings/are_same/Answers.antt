use Rattle.std.proofs.Common.{◌≡◌, ℕ, eqb, true, refl, ap, sym, ◌∙◌, subst, Option, Some, None, rules, false, not}
use Rattle.std.specs.Option.{is_some}
use Rattle.loop_bounds.specs.declared.effect.Change.{Change}
use Rattle.loop_bounds.specs.declared.effect.Change.TheVariants.{Old, Raised, Lowered, Constant, Unknown}
use Rattle.loop_bounds.specs.declared.effect.Effect.{Effect}
use Rattle.loop_bounds.specs.declared.effect.SlotChange.{SlotChange}
use Rattle.linear_effects.specs.declared.variable_effect.LinearEffect.{LinearEffect}
use Rattle.check_claims.specs.Rewritings.{change_or, slot_or, effect_or, constants_first, variables_first}
use Rattle.check_claims.proofs.OrLemmas.{same_effect}
use Rattle.check_claims.proofs.rewritings.are_same.Goals as goal

one_way : (settled moved : Effect) (linear : Option LinearEffect) → settled ≡ moved → linear ≡ None → variables_first settled moved linear ≡ constants_first settled linear
one_way settled moved linear e none =
    subst (λ (m : Effect). variables_first settled m linear ≡ constants_first settled linear) e
    (subst (λ (l : Option LinearEffect). variables_first settled settled l ≡ constants_first settled l) (sym none)
    (rw (same_effect settled) refl))

none_there : (linear : Option LinearEffect) → is_some linear ≡ false → linear ≡ None
none_there None e = refl
none_there (Some x) e = cc

pub returns-then-is_none : goal.returns-then-is_none
returns-then-is_none c = λ t. one_way c.args.settled.now c.args.moved.now c.args.linear.now (c.are_equal.ensures t) (none_there c.args.linear.now (c.is_none.ensures ∙ ap not c.if-is_none.true))
