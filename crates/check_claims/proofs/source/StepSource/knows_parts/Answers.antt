use Rattle.std.proofs.Common.{◌≡◌, true, false, refl, sym, subst, arith}
use Rattle.check_claims.specs.Claims.{IsClaimedPart}
use Rattle.check_claims.proofs.Lists.{also_of_next}
use Rattle.check_claims.proofs.source.StepSource.knows_parts.Goals as goal

never : false ≡ true → ⊥
never e = cc

pub loop-part-preserved : goal.loop-part-preserved
loop-part-preserved c =
    also_of_next (IsClaimedPart c.args.self.now c.args.after.now) c.args.parts.now c.loop-part.part-index c.part-item.result
    c.loop-part.invariant c.loop-part-test.true c.part-item.is (c.if-not-knows_part.ensures.exact.0 refl)

pub returns-then-not-knows_part : goal.returns-then-not-knows_part
returns-then-not-knows_part c = (
  (λ e. absurd (never e)),
  λ all. absurd (never (c.if-not-knows_part.ensures.exact.1 (subst (IsClaimedPart c.args.self.now c.args.after.now) (sym c.part-item.is) (all c.loop-part.part-index c.part-item.result c.loop-part-test.true)))),
)

pub returns : goal.returns
returns c = ((λ e k d within. c.loop-part.invariant k d (omega (arith, within, c.loop-part-test.false))), λ all. refl)
