use Rattle.std.proofs.Common.{◌↔◌, IsTrue, refl, subst}
use Rattle.abs_state.specs.Variables.{range_of}
use Rattle.check_claims.specs.Claims.{BecomesZero}
use Rattle.check_claims.specs.declared.rewritings.Rewriting.{Rewriting}
use Rattle.check_claims.proofs.Tests.{by_first, by_neither, by_second}
use Rattle.check_claims.proofs.facts.becomes_zero_either_way.Goals as goal

pub returns-then-becomes_zero : goal.returns-then-becomes_zero
returns-then-becomes_zero c =
    by_first _ _ c.becomes_zero.result c.if-becomes_zero.true
    (subst (λ (r : Rewriting). IsTrue c.becomes_zero.result ↔ BecomesZero c.args.facts.now (range_of c.args.before.now) r c.args.fact.now) c.constants_first.ensures.exact c.becomes_zero.ensures)

pub returns-then-are_same : goal.returns-then-are_same
returns-then-are_same c =
    by_neither _ _ c.becomes_zero.result c.if-becomes_zero.false
    (subst (λ (r : Rewriting). IsTrue c.becomes_zero.result ↔ BecomesZero c.args.facts.now (range_of c.args.before.now) r c.args.fact.now) c.constants_first.ensures.exact c.becomes_zero.ensures)
    (subst (λ (r : Rewriting). BecomesZero c.args.facts.now (range_of c.args.before.now) r c.args.fact.now) (c.if-are_same.ensures refl))

pub returns : goal.returns
returns c =
    by_second _ _ c.becomes_zero.result c.becomes_zero-2.result c.if-becomes_zero.false
    (subst (λ (r : Rewriting). IsTrue c.becomes_zero.result ↔ BecomesZero c.args.facts.now (range_of c.args.before.now) r c.args.fact.now) c.constants_first.ensures.exact c.becomes_zero.ensures)
    (subst (λ (r : Rewriting). IsTrue c.becomes_zero-2.result ↔ BecomesZero c.args.facts.now (range_of c.args.before.now) r c.args.fact.now) c.variables_first.ensures.exact c.becomes_zero-2.ensures)
