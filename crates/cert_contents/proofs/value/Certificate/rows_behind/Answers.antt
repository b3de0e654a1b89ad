use Rattle.std.proofs.Common.{arith}
use Rattle.std.proofs.lemmas.Option.{slice_get_within}
use Rattle.cert_contents.proofs.PlaceLemmas.{place_in_form}
use Rattle.cert_contents.proofs.value.Certificate.rows_behind.Goals as goal

pub returns-else-proc-lt65535-clause-upto : goal.returns-else-proc-lt65535-clause-upto
returns-else-proc-lt65535-clause-upto c k row is low =
    let place = place_in_form c.args.self.now c.is_in_form.ensures k row is in
    omega (arith, place.proc, place.address, c.if-proc-lt65535.false, c.if-address-lt65535.false)

pub returns-else-proc-lt65535-clause-behind : goal.returns-else-proc-lt65535-clause-behind
returns-else-proc-lt65535-clause-behind c k row is high =
    absurd (omega (arith, high, c.row_count.ensures, slice_get_within c.args.self.now.rows k row is))
