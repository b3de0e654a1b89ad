use Rattle.std.proofs.Common.{◌≡◌, ◌↔◌, Bool, IsTrue, List, inl, inr, subst}
use Rattle.abs_state.specs.Variables.{range_of}
use Rattle.flag_letters.specs.declared.part.FlagPart.{FlagPart}
use Rattle.check_claims.specs.Claims.{IsToldBack, IsToldBeforeEitherWay}
use Rattle.check_claims.specs.Rewritings.{variables_first}
use Rattle.check_claims.specs.Source.{StepSourceView}
use Rattle.check_claims.specs.declared.rewritings.Rewriting.{Rewriting}
use Rattle.check_claims.proofs.source.StepSource.tells_part.Goals as goal

abbrev ToldBefore : StepSourceView → FlagPart → List FlagPart → Type 0
ToldBefore s part conditions = IsToldBeforeEitherWay s.facts (range_of s.before) s.settled s.moved s.linear part conditions

abbrev ToldBack : StepSourceView → FlagPart → List FlagPart → Type 0
ToldBack s part conditions = IsToldBack s.facts (range_of s.before) (variables_first s.settled s.moved s.linear) part conditions

of_before : (s self : StepSourceView) (part : FlagPart) (conditions : List FlagPart) → s ≡ self → conditions ≡ s.conditions.before →
    ToldBefore s part conditions → ToldBefore self part self.conditions.before
of_before s self part conditions is list h =
    subst (λ (r : StepSourceView). ToldBefore r part r.conditions.before) is (subst (λ (l : List FlagPart). ToldBefore s part l) list h)

of_back : (s self : StepSourceView) (part : FlagPart) (conditions : List FlagPart) (r : Rewriting) → s ≡ self → conditions ≡ s.conditions.after →
    r ≡ variables_first s.settled s.moved s.linear → IsToldBack s.facts (range_of s.before) r part conditions → ToldBack self part self.conditions.after
of_back s self part conditions r is list first h =
    subst (λ (q : StepSourceView). ToldBack q part q.conditions.after) is
    (subst (λ (l : List FlagPart). ToldBack s part l) list
    (subst (λ (q : Rewriting). IsToldBack s.facts (range_of s.before) q part conditions) first h))

pub returns-then-is_told_before_either_way : goal.returns-then-is_told_before_either_way
returns-then-is_told_before_either_way c = λ t after.
    inl (of_before _ c.args.self.now c.args.part.now c.before-2.result.now c.self.view_is c.before-2.ensures.value
    (c.is_told_before_either_way.ensures.0 c.if-is_told_before_either_way.true))

pub returns : goal.returns
returns c = λ t after.
    inr (inr (of_back _ c.args.self.now c.args.part.now c.after.result.now c.variables_first.result c.self.view_is c.after.ensures.value
    c.variables_first.ensures.exact (c.is_told_back.ensures.0 t)))
