use Rattle.std.proofs.Common.{add-one, ap, get_or}
use Rattle.cert_form.proofs.MappedLemmas.{all_told, one_more_told, write_numbered}
use Rattle.cert_form.proofs.rows.use_flag_parts.Goals as goal

pub returns-in_err-use_flag_parts-clause-numbered : goal.returns-in_err-use_flag_parts-clause-numbered
returns-in_err-use_flag_parts-clause-numbered c = λ shapes have.
    write_numbered shapes c.args.stored.now c.loop-row.stored c.use_flag_parts.new.stored c.args.rows.now c.loop-row.rows
    c.loop-row.row-index _ c.use_flag_parts.new.self c.loop-row-test.true
    (ap (get_or c.loop-row.rows c.loop-row.row-index) c.row-item.is)
    c.use_flag_parts.ensures.kept (c.use_flag_parts.ensures.numbered shapes) (c.loop-row.invariant shapes have)

pub loop-row-preserved : goal.loop-row-preserved
loop-row-preserved c = λ shapes have.
    rw add-one
    (one_more_told shapes c.args.stored.now c.loop-row.stored c.use_flag_parts.new.stored c.args.rows.now c.loop-row.rows
    c.loop-row.row-index _ c.use_flag_parts.new.self c.loop-row-test.true
    (ap (get_or c.loop-row.rows c.loop-row.row-index) c.row-item.is)
    c.use_flag_parts.ensures.kept (c.use_flag_parts.ensures.numbered shapes) (c.loop-row.invariant shapes have)
    (c.in_ok-use_flag_parts.ensures.changed shapes))

pub returns-clause-numbered : goal.returns-clause-numbered
returns-clause-numbered c = λ shapes have. (c.loop-row.invariant shapes have).numbered

pub returns-clause-changed : goal.returns-clause-changed
returns-clause-changed c = λ shapes have.
    all_told shapes c.args.stored.now c.loop-row.stored c.args.rows.now c.loop-row.rows c.loop-row.row-index
    c.loop-row-test.false (c.loop-row.invariant shapes have)
