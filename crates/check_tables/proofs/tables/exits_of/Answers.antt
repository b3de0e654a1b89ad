use Rattle.std.proofs.Common.{is_ok}
use Rattle.check_tables.proofs.LeftLemmas.{all_kept}
use Rattle.check_tables.specs.Tables.{AreExits}
use Rattle.check_tables.proofs.tables.exits_of.Goals as goal

pub loop-proc-preserved : goal.loop-proc-preserved
loop-proc-preserved c =
    all_kept (AreExits c.args.rom.now c.args.certificate.now) c.loop-proc.exits.items c.push.new.self.items c.in-Ok-of.gathered (is_ok c.push.result)
    c.push.ensures.items c.loop-proc.invariant (c.in-Ok-of.ensures {u = tt}).exits
