use Rattle.std.proofs.Common.{◌↔◌, IsTrue, subst}
use Rattle.abs_state.specs.Variables.{range_of}
use Rattle.check_claims.specs.Claims.{IsToldBack}
use Rattle.check_claims.specs.declared.rewritings.Rewriting.{Rewriting}
use Rattle.check_claims.proofs.Tests.{by_first, by_second}
use Rattle.check_claims.proofs.parts.is_told_after_either_way.Goals as goal

pub returns-then-is_told_after : goal.returns-then-is_told_after
returns-then-is_told_after c = by_first _ _ c.is_told_after.result c.if-is_told_after.true c.is_told_after.ensures

pub returns : goal.returns
returns c =
    by_second _ _ c.is_told_after.result c.is_told_back.result c.if-is_told_after.false c.is_told_after.ensures
    (subst (λ (r : Rewriting). IsTrue c.is_told_back.result ↔ IsToldBack c.args.facts.now (range_of c.args.before.now) r c.args.part.now c.args.conditions.now) c.variables_first.ensures.exact c.is_told_back.ensures)
