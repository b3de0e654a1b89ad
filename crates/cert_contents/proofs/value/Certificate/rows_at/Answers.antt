use Rattle.std.proofs.Common.{arith}
use Rattle.cert_contents.proofs.PlaceLemmas.{one_place, place_in_form}
use Rattle.cert_contents.proofs.value.Certificate.rows_at.Goals as goal

pub returns-clause-at : goal.returns-clause-at
returns-clause-at c k row is =
    one_place c.rows_from.result c.rows_behind.result k c.args.proc c.args.address row.proc row.address
    (omega (arith, c.ranges.address.fits)) (place_in_form c.args.self.now c.is_in_form.ensures k row is).address
    (c.rows_from.ensures.below k row is) (c.rows_from.ensures.from k row is) (c.rows_behind.ensures.upto k row is) (c.rows_behind.ensures.behind k row is)
