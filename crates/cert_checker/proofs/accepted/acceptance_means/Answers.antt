use Rattle.cert_checker.proofs.AcceptedLemmas.{means}
use Rattle.cert_checker.proofs.accepted.acceptance_means.Goals as goal

pub returns : goal.returns
returns c = means c.args.rom.now c.args.certificate.now c.requires c.is_in_form.ensures c.bytes_are_in_range.ensures
