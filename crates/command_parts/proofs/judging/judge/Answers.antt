use Rattle.std.proofs.Common.{inl, inr, ◌∙◌}
use Rattle.texts.specs.Device.{FailsAmid, Takes}
use Rattle.command_parts.proofs.FileLemmas.{accepted_of, refused_of, unread_of}
use Rattle.command_parts.proofs.judging.judge.Goals as goal

pub returns-in-Err-clause-refused : goal.returns-in-Err-clause-refused
returns-in-Err-clause-refused g c = λ e. unread_of Takes _ _ _ _ (c.in-Err.ensures.refused (cc e))

pub returns-in-Err-clause-part : goal.returns-in-Err-clause-part
returns-in-Err-clause-part g c = λ e. elim (c.in-Err.ensures.part (cc e)) [
  | inl same ↦ inl same
  | inr amid ↦ inr (unread_of FailsAmid _ _ _ _ amid)
]

pub returns-in_ok-put-in-Err-Refused-clause-refused : goal.returns-in_ok-put-in-Err-Refused-clause-refused
returns-in_ok-put-in-Err-Refused-clause-refused g c = λ _.
    refused_of Takes g.W.Sink.state _ _ _ _ c.in-Err-Refused.refused _ _ _ c.in-Ok.ensures.read c.in-Ok.ensures.kept (c.in-Err-Refused.ensures.refused _ (cc)) (c.bytes.ensures.value ∙ c.refused_line.ensures) c.in_ok-put-in-Err-Refused.ensures

pub returns-in_err-put-in-Err-Refused-clause-part : goal.returns-in_err-put-in-Err-Refused-clause-part
returns-in_err-put-in-Err-Refused-clause-part g c = λ _. inr (
    refused_of FailsAmid g.W.Sink.state _ _ _ _ c.in-Err-Refused.refused _ _ _ c.in-Ok.ensures.read c.in-Ok.ensures.kept (c.in-Err-Refused.ensures.refused _ (cc)) (c.bytes.ensures.value ∙ c.refused_line.ensures) c.in_err-put-in-Err-Refused.ensures
    )

pub returns-in-Ok-check-clause-accepted : goal.returns-in-Ok-check-clause-accepted
returns-in-Ok-check-clause-accepted g c = (
  c.in-Ok-check.ensures.kept.0,
  accepted_of _ _ _ _ c.in-Ok-check.ensures.kept.1 c.in-Ok.ensures.read c.in-Ok-check.ensures.only c.in-Ok-check.ensures.safe,
)
