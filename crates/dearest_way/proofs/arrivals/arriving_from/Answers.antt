use Rattle.std.proofs.Common.{sym}
use Rattle.check_walks.proofs.WalkLemmas.{listed_at}
use Rattle.dearest_way.specs.Arrivals.{ArrivesAt}
use Rattle.dearest_way.proofs.ArrivalLemmas.{if_some}
use Rattle.dearest_way.proofs.arrivals.arriving_from.Goals as goal

pub cost_between-requires-clause-listed : goal.cost_between-requires-clause-listed
cost_between-requires-clause-listed c =
    let of = (c.in_ok-subject.ensures {u = tt}).some in
    listed_at c.args.certificate.now c.in_ok-subject.subject.cert c.args.to c.in_ok-target.target of.1 (sym (c.in_ok-target.ensures {u = tt}))

pub returns : goal.returns
returns c =
    let of = (c.in_ok-subject.ensures {u = tt}).some in
    if_some _ _ c.arriving_by_some.result
    (λ state arrives. record {
      subject = c.in_ok-subject.subject;
      is_from = record { is_subject = c.is_subject.ensures; same = (of.0, of.1); at = of.2 };
      target = c.in_ok-target.target;
      is_to = sym (c.in_ok-target.ensures {u = tt});
      arrives = arrives;
    })
    c.arriving_by_some.ensures
