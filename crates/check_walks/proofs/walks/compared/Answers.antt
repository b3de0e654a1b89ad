use Rattle.std.proofs.Common.{sym}
use Rattle.check_walks.proofs.WalkLemmas.{between_numbers, listed_at}
use Rattle.check_walks.proofs.walks.compared.Goals as goal

pub cost_from-requires : goal.cost_from-requires
cost_from-requires c =
    let of = (c.in_ok-subject.ensures {u = tt}).some in
    listed_at c.args.certificate.now c.in_ok-subject.subject.cert c.args.to c.in_ok-target.target of.1 (sym (c.in_ok-target.ensures {u = tt}))

pub returns : goal.returns
returns c =
    let of = (c.in_ok-subject.ensures {u = tt}).some in
    between_numbers c.args.rom.now c.args.certificate.now c.args.from c.args.to c.in_ok-subject.subject c.in_ok-target.target c.cost_from.result
    (record { is_subject = c.is_subject.ensures; same = (of.0, of.1); at = of.2 }) (sym (c.in_ok-target.ensures {u = tt})) c.cost_from.ensures
