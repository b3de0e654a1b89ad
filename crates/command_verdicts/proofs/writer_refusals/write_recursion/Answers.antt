use Rattle.std.proofs.Common.{◌++◌}
use Rattle.std.specs.List.{flat_map}
use Rattle.std.specs.Prelude.{codes}
use Rattle.std.proofs.lemmas.Result.{err_from_is_err_and}
use Rattle.certificate.proofs.WritingLemmas.{fails_before, fails_behind, puts_behind}
use Rattle.command_verdicts.specs.WriterRefusals.{entry_text}
use Rattle.command_verdicts.proofs.writer_refusals.write_recursion.Goals as goal

pub returns-in_err-put : goal.returns-in_err-put
returns-in_err-put g c =
    let p = err_from_is_err_and c.from_residual.result c.from_residual.ensures.1 in
    rw p.1 (fails_before _ _ (codes "recursion") (flat_map entry_text c.args.entries.now ++ codes "\n") c.in_err-put.ensures)

pub returns-in_err-write_entries : goal.returns-in_err-write_entries
returns-in_err-write_entries g c =
    let p = err_from_is_err_and c.from_residual-in_err-write_entries.result c.from_residual-in_err-write_entries.ensures.1 in
    rw p.1
    (fails_behind _ _ _ (codes "recursion") _ c.in_ok-put.ensures
    (fails_before _ _ (flat_map entry_text c.args.entries.now) (codes "\n") c.in_err-write_entries.ensures))

pub returns : goal.returns
returns g c =
    puts_behind _ _ _ (codes "recursion") _ c.put-2.result c.in_ok-put.ensures
    (puts_behind _ _ _ (flat_map entry_text c.args.entries.now) (codes "\n") c.put-2.result c.in_ok-write_entries.ensures c.put-2.ensures)
