use Rattle.std.proofs.Common.{◌↔◌, IsTrue, refl, subst}
use Rattle.abs_state.specs.Variables.{range_of}
use Rattle.check_claims.specs.Claims.{IsToldBefore}
use Rattle.check_claims.specs.declared.rewritings.Rewriting.{Rewriting}
use Rattle.check_claims.proofs.Tests.{by_first, by_neither, by_second}
use Rattle.check_claims.proofs.parts.is_told_before_either_way.Goals as goal

pub returns-then-is_told_before : goal.returns-then-is_told_before
returns-then-is_told_before c =
    by_first _ _ c.is_told_before.result c.if-is_told_before.true
    (subst (λ (r : Rewriting). IsTrue c.is_told_before.result ↔ IsToldBefore c.args.facts.now (range_of c.args.before.now) r c.args.part.now c.args.conditions.now) c.constants_first.ensures.exact c.is_told_before.ensures)

pub returns-then-are_same : goal.returns-then-are_same
returns-then-are_same c =
    by_neither _ _ c.is_told_before.result c.if-is_told_before.false
    (subst (λ (r : Rewriting). IsTrue c.is_told_before.result ↔ IsToldBefore c.args.facts.now (range_of c.args.before.now) r c.args.part.now c.args.conditions.now) c.constants_first.ensures.exact c.is_told_before.ensures)
    (subst (λ (r : Rewriting). IsToldBefore c.args.facts.now (range_of c.args.before.now) r c.args.part.now c.args.conditions.now) (c.if-are_same.ensures refl))

pub returns : goal.returns
returns c =
    by_second _ _ c.is_told_before.result c.is_told_before-2.result c.if-is_told_before.false
    (subst (λ (r : Rewriting). IsTrue c.is_told_before.result ↔ IsToldBefore c.args.facts.now (range_of c.args.before.now) r c.args.part.now c.args.conditions.now) c.constants_first.ensures.exact c.is_told_before.ensures)
    (subst (λ (r : Rewriting). IsTrue c.is_told_before-2.result ↔ IsToldBefore c.args.facts.now (range_of c.args.before.now) r c.args.part.now c.args.conditions.now) c.variables_first.ensures.exact c.is_told_before-2.ensures)
