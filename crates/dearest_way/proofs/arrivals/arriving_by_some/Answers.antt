use Rattle.std.proofs.Common.{subst, sym}
use Rattle.std.specs.List.{Contains}
use Rattle.std.proofs.lemmas.List.Elements.{Contains-get_or}
use Rattle.abs_step.specs.declared.next.Next.{Next}
use Rattle.dearest_way.proofs.ArrivalLemmas.{arrives_at, if_some}
use Rattle.dearest_way.proofs.arrivals.arriving_by_some.Goals as goal

pub returns-then-is_some : goal.returns-then-is_some
returns-then-is_some c =
    let nexts = c.args.nexts.now in
    let next = c.next-item.result in
    let within = Contains-get_or nexts c.loop-next.next-index next c.loop-next-test.true in
    let listed = subst (λ (n : Next). Contains nexts n) (sym c.next-item.is) within in
    if_some _ _ c.arriving_by-arriving.result (λ state. arrives_at c.args.subject.now c.args.target.now nexts next state c.requires.step listed)
    c.arriving_by-arriving.ensures
