use Rattle.std.proofs.Common.{◌≡◌, ◌↔◌, Bool, IsTrue, List, subst}
use Rattle.abs_state.specs.Variables.{range_of}
use Rattle.abs_state.specs.declared.state.AbsState.{AbsState}
use Rattle.flag_letters.specs.declared.part.FlagPart.{FlagPart}
use Rattle.check_claims.specs.Claims.{IsToldAfterEitherWay, IsToldBeforeEitherWay}
use Rattle.check_claims.specs.Source.{StepSourceView}
use Rattle.check_claims.proofs.Tests.{by_first, by_second}
use Rattle.check_claims.proofs.TruthLemmas.{part_true}
use Rattle.check_claims.proofs.source.StepSource.knows_part.Goals as goal

abbrev ToldBefore : StepSourceView → FlagPart → List FlagPart → Type 0
ToldBefore s part conditions = IsToldBeforeEitherWay s.facts (range_of s.before) s.settled s.moved s.linear part conditions

abbrev ToldAfter : StepSourceView → AbsState → FlagPart → List FlagPart → Type 0
ToldAfter s after part conditions =
    IsToldAfterEitherWay s.facts (range_of s.before) s.settled s.moved s.linear (range_of after) part conditions

of_before : (s self : StepSourceView) (part : FlagPart) (conditions : List FlagPart) (told : Bool) → s ≡ self → conditions ≡ s.conditions.before →
    (IsTrue told ↔ ToldBefore s part conditions) → IsTrue told ↔ ToldBefore self part self.conditions.before
of_before s self part conditions told is list h =
    subst (λ (r : StepSourceView). IsTrue told ↔ ToldBefore r part r.conditions.before) is
    (subst (λ (l : List FlagPart). IsTrue told ↔ ToldBefore s part l) list h)

of_after : (s self : StepSourceView) (after : AbsState) (part : FlagPart) (conditions : List FlagPart) (told : Bool) → s ≡ self → conditions ≡ s.conditions.after →
    (IsTrue told ↔ ToldAfter s after part conditions) → IsTrue told ↔ ToldAfter self after part self.conditions.after
of_after s self after part conditions told is list h =
    subst (λ (r : StepSourceView). IsTrue told ↔ ToldAfter r after part r.conditions.after) is
    (subst (λ (l : List FlagPart). IsTrue told ↔ ToldAfter s after part l) list h)

pub returns-then-is_told_before_either_way-clause-exact : goal.returns-then-is_told_before_either_way-clause-exact
returns-then-is_told_before_either_way-clause-exact c =
    by_first (ToldBefore c.args.self.now c.args.part.now c.args.self.now.conditions.before) (ToldAfter c.args.self.now c.args.after.now c.args.part.now c.args.self.now.conditions.after)
    c.is_told_before_either_way.result c.if-is_told_before_either_way.true
    (of_before _ c.args.self.now c.args.part.now c.before-2.result.now c.is_told_before_either_way.result c.self.view_is c.before-2.ensures.value c.is_told_before_either_way.ensures)

pub returns-then-is_told_before_either_way-clause-true_after : goal.returns-then-is_told_before_either_way-clause-true_after
returns-then-is_told_before_either_way-clause-true_after c = λ t flags x y source conditions come.
    part_true c.args.self.now x y source c.args.after.now flags conditions c.args.part.now ((returns-then-is_told_before_either_way-clause-exact c).0 t) come

pub returns-clause-exact : goal.returns-clause-exact
returns-clause-exact c =
    by_second (ToldBefore c.args.self.now c.args.part.now c.args.self.now.conditions.before) (ToldAfter c.args.self.now c.args.after.now c.args.part.now c.args.self.now.conditions.after)
    c.is_told_before_either_way.result c.is_told_after_either_way.result c.if-is_told_before_either_way.false
    (of_before _ c.args.self.now c.args.part.now c.before-2.result.now c.is_told_before_either_way.result c.self.view_is c.before-2.ensures.value c.is_told_before_either_way.ensures)
    (of_after _ c.args.self.now c.args.after.now c.args.part.now c.after.result.now c.is_told_after_either_way.result c.self.view_is c.after.ensures.value c.is_told_after_either_way.ensures)

pub returns-clause-true_after : goal.returns-clause-true_after
returns-clause-true_after c = λ t flags x y source conditions come.
    part_true c.args.self.now x y source c.args.after.now flags conditions c.args.part.now ((returns-clause-exact c).0 t) come
