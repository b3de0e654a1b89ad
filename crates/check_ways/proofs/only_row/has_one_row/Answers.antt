use Rattle.check_ways.proofs.RowLemmas.{one_row}
use Rattle.check_ways.proofs.only_row.has_one_row.Goals as goal

pub returns : goal.returns
returns c =
    one_row c.args.certificate.now c.args.proc c.args.address c.rows_at-rows.result.start c.rows_at-rows.result.end c.saturating_sub.result
    c.rows_at-rows.ensures.at c.rows_at-rows.ensures.within c.saturating_sub.ensures
