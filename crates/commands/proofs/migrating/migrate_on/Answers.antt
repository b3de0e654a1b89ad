use Rattle.std.proofs.Common.{inl, inr}
use Rattle.texts.specs.Device.{FailsAmid, Takes}
use Rattle.commands.proofs.PlayedLemmas.{tells_migrated}
use Rattle.commands.proofs.migrating.migrate_on.Goals as goal

pub returns-in-Ok-write-clause-migrated : goal.returns-in-Ok-write-clause-migrated
returns-in-Ok-write-clause-migrated g c = λ _.
    tells_migrated c.args.version Takes g.W.Sink.state _ _ _ _ _ _ c.in-Ok.ensures.read c.in-Ok-migrate_to.ensures.value c.in-Ok.ensures.kept c.in-Ok-write.ensures

pub returns-clause-part : goal.returns-clause-part
returns-clause-part g c = λ _. inr (inl (
    tells_migrated c.args.version FailsAmid g.W.Sink.state _ _ _ _ _ _ c.in-Ok.ensures.read c.in-Ok-migrate_to.ensures.value c.in-Ok.ensures.kept c.in-Err-write.ensures
    ))
