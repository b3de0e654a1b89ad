use Rattle.std.proofs.Common.{sym}
use Rattle.check_tables.proofs.LeftLemmas.{adds_inserted}
use Rattle.check_tables.proofs.gathering.add_exit.Goals as goal

pub returns-in_ok-insert : goal.returns-in_ok-insert
returns-in_ok-insert c =
    adds_inserted c.args.rom.now c.args.certificate.now c.args.id c.in-Some.row c.in-Some-exit_of.exit c.args.lefts.now.keys c.insert.new.self.keys c.of.result
    (sym (c.in-Some.ensures {u = tt}))
    (c.in-Some-exit_of.ensures {u = tt}).state
    (c.in-Some-exit_of.ensures {u = tt}).decodes
    c.of.ensures
    ((c.in_ok-insert.ensures {u = tt}).keys)
