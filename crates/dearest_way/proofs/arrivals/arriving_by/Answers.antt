use Rattle.abs_step.specs.declared.next.NextKind.TheVariants.{Call, Jump}
use Rattle.dearest_way.proofs.ArrivalLemmas.{arrives_by, if_some}
use Rattle.dearest_way.proofs.arrivals.arriving_by.Goals as goal

pub returns-in-Jump : goal.returns-in-Jump
returns-in-Jump c =
    if_some _ _ c.arriving_by_jump.result (λ state. arrives_by c.args.subject.now c.args.target.now c.args.next.now Jump state c.in-Jump.is) c.arriving_by_jump.ensures
