use Rattle.std.proofs.Common.{arith, get_or, subst, ◌∙◌}
use Rattle.std.specs.List.{flat_map}
use Rattle.std.proofs.lemmas.List.{take_all}
use Rattle.std.proofs.lemmas.Option.{slice_get-get_or}
use Rattle.std.proofs.lemmas.Result.{err_from_is_err_and}
use Rattle.certificate.proofs.WritingLemmas.{fails_at, takes_more, takes_none}
use Rattle.texts.specs.Device.{Takes}
use Rattle.command_verdicts.specs.WriterRefusals.{entry_text}
use Rattle.command_verdicts.proofs.writer_refusals.write_entries.Goals as goal

pub loop-entry-init : goal.loop-entry-init
loop-entry-init g c = takes_none (g.W.Sink.state c.args.out.now)

pub returns-in_err-put : goal.returns-in_err-put
returns-in_err-put g c =
    let p = err_from_is_err_and c.from_residual.result c.from_residual.ensures.1 in
    let entries = c.args.entries.now in
    let index = c.loop-entry.entry-index in
    rw p.1
    (fails_at entry_text entries index (get_or entries index 0) _ _ _ _ (slice_get-get_or entries index 0 (omega arith))
    (c.bytes.ensures.value ∙ c.entry_word.ensures) c.loop-entry.invariant c.in_err-put.ensures)

pub loop-entry-preserved : goal.loop-entry-preserved
loop-entry-preserved g c =
    let entries = c.args.entries.now in
    let index = c.loop-entry.entry-index in
    takes_more entry_text entries index (get_or entries index 0) _ _ _ _ (slice_get-get_or entries index 0 (omega arith))
    (c.bytes.ensures.value ∙ c.entry_word.ensures) c.loop-entry.invariant c.in_ok-put.ensures

pub returns : goal.returns
returns g c =
    let entries = c.args.entries.now in
    subst (λ xs. Takes (g.W.Sink.state c.args.out.now) (flat_map entry_text xs) (g.W.Sink.state c.loop-entry.out))
    (take_all c.loop-entry.entry-index entries (omega arith)) c.loop-entry.invariant
