use Rattle.cert_contents.proofs.PlaceLemmas.{one_proc, place_in_form}
use Rattle.cert_contents.proofs.value.Certificate.rows_of.Goals as goal

pub returns-clause-of : goal.returns-clause-of
returns-clause-of c k row is =
    one_proc c.rows_from.result c.rows_behind.result k c.args.proc row.proc row.address (place_in_form c.args.self.now c.is_in_form.ensures k row is).address
    (c.rows_from.ensures.below k row is) (c.rows_from.ensures.from k row is) (c.rows_behind.ensures.upto k row is) (c.rows_behind.ensures.behind k row is)
