use Rattle.std.proofs.Common.{refl}
use Rattle.abs_step.specs.declared.reason.Reason.TheVariants as reasons
use Rattle.check_rules.proofs.Order.{passes}
use Rattle.check_rules.proofs.Steps.{leads_further}
use Rattle.check_rules.proofs.rows.check_ways.Goals as goal

pub returns-clause-told : goal.returns-clause-told
returns-clause-told c =
    let s = c.args.subject.now in
    passes s reasons.Rank 14 refl refl
    (passes s reasons.NotCovered 13 refl refl
    (passes s reasons.StackDepth 12 refl refl (leads_further s c.args.nexts.now c.requires.step c.requires.below) (c.if-not-fits_depth.ensures.0 refl))
    (c.if-not-goes_on.ensures.exact.0 refl)) (c.if-not-ranks_fall.ensures.0 refl)
