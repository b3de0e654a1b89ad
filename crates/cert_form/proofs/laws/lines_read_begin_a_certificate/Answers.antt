use Rattle.cert_form.proofs.Completes.{completes, completion_begins, completion_in_form, completion_within}
use Rattle.cert_form.proofs.Order.{ordered}
use Rattle.cert_form.proofs.laws.lines_read_begin_a_certificate.Goals as goal

pub returns : goal.returns
returns c p progress =
    let (d, whole) = completes p (ordered p progress) in
    (d, completion_in_form p d progress whole, completion_within p d whole, completion_begins p d whole)
