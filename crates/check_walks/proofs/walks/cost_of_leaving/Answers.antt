use Rattle.check_walks.proofs.WalkLemmas.{leaves_number, none_leaves}
use Rattle.check_walks.proofs.walks.cost_of_leaving.Goals as goal

pub returns-then-not-may_have_exit : goal.returns-then-not-may_have_exit
returns-then-not-may_have_exit c =
    none_leaves c.args.rom.now c.args.certificate.now c.args.row (c.may_have_exit.ensures c.if-not-may_have_exit.true)

pub returns : goal.returns
returns c =
    let of = (c.in_ok-subject.ensures {u = tt}).some in
    leaves_number c.args.rom.now c.args.certificate.now c.args.row c.in_ok-subject.subject c.cost_of_own_exit.result
    (record { is_subject = c.is_subject.ensures; same = (of.0, of.1); at = of.2 }) c.cost_of_own_exit.ensures
