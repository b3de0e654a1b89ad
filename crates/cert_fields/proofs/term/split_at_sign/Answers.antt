use Rattle.std.proofs.Common.{sym, ◌∙◌}
use Rattle.std.proofs.lemmas.List.{take_rest}
use Rattle.cert_fields.proofs.SignLemmas.{cut_at_position, uncut}
use Rattle.cert_fields.proofs.term.split_at_sign.Goals as goal

pub returns-in-Some : goal.returns-in-Some
returns-in-Some c = rw (take_rest c.args.text.now c.in-Some.at) (cut_at_position _ _ (sym c.position_of_sign.ensures ∙ c.in-Some.is))

pub returns-in-None : goal.returns-in-None
returns-in-None c = uncut _ (sym c.position_of_sign.ensures ∙ c.in-None.is)
