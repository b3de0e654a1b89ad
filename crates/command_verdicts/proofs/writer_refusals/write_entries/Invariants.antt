use Rattle.std.proofs.Common.{take}
use Rattle.std.specs.List.{flat_map}
use Rattle.texts.specs.Device.{Takes}
use Rattle.command_verdicts.specs.WriterRefusals.{entry_text}
use Rattle.command_verdicts.proofs.writer_refusals.write_entries.Given as goal

-- the entries before this one were written
abbrev pub invariant-loop-entry : goal.invariant-loop-entry
invariant-loop-entry g l =
    Takes (g.W.Sink.state l.fn.out) (flat_map entry_text (take l.entry-index l.entries)) (g.W.Sink.state l.out)
