use Rattle.std.proofs.Common.{sym, ◌∙◌, ◌+◌}
use Rattle.std.proofs.lemmas.List.{take_rest}
use Rattle.texts.proofs.FieldLemmas.{slice_split_nowhere, slice_split_position, cut_position}
use Rattle.texts.proofs.fields.split_once.Goals as goal

pub returns-in_err-at-clause-cut : goal.returns-in_err-at-clause-cut
returns-in_err-at-clause-cut c =
    rw c.from_residual.ensures (slice_split_nowhere _ _ (sym c.position_of.ensures ∙ c.in_err-at.was))

pub returns-in_err-at-clause-parts : goal.returns-in_err-at-clause-parts
returns-in_err-at-clause-parts c =
    rw c.from_residual.ensures (slice_split_nowhere _ _ (sym c.position_of.ensures ∙ c.in_err-at.was))

pub returns-clause-cut : goal.returns-clause-cut
returns-clause-cut c =
    rw (take_rest c.args.bytes.now (c.in_ok-at.at + 1)) (cut_position _ _ _ (sym c.position_of.ensures ∙ c.in_ok-at.was))

pub returns-clause-parts : goal.returns-clause-parts
returns-clause-parts c =
    rw (take_rest c.args.bytes.now (c.in_ok-at.at + 1)) (slice_split_position _ _ _ (sym c.position_of.ensures ∙ c.in_ok-at.was))
