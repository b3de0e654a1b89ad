use Rattle.std.proofs.Common.{arith}
use Rattle.path_time.proofs.TableLemmas.{best_upto_more}
use Rattle.path_time.proofs.ahead.ahead_of_entry.Goals as goal

pub loop-row-preserved : goal.loop-row-preserved
loop-row-preserved c =
    rw (c.longer-best.ensures, c.one_more.ensures)
    (best_upto_more c.args.table.now c.args.rows.start c.loop-row.row c.args.rows.end c.args.before c.loop-row.best c.loop-row.auto.row c.loop-row-test.true
    c.loop-row.invariant)

pub returns : goal.returns
returns c = record {
  each = λ row from below ahead is. c.loop-row.invariant.each row from (omega (arith, below, c.loop-row-test.false)) ahead is;
  by = c.loop-row.invariant.by;
}
