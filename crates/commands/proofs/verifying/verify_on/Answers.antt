use Rattle.std.proofs.Common.{inl, inr}
use Rattle.texts.specs.Device.{FailsAmid, Takes}
use Rattle.command_parts.proofs.FileLemmas.{tells_accepted, tells_refusal, lent_first}
use Rattle.commands.proofs.verifying.verify_on.Goals as goal

pub returns-in-Err-judge-clause-refused : goal.returns-in-Err-judge-clause-refused
returns-in-Err-judge-clause-refused g c = λ e.
    tells_refusal Takes _ _ _ _ _ (lent_first _ _ _ c.as_slice.ensures.value c.in-Ok.ensures.first)
    (c.in-Err-judge.ensures.refused (cc (c.status-in-Err-judge.ensures.refused e)))

pub returns-in-Ok-write_table-clause-accepted : goal.returns-in-Ok-write_table-clause-accepted
returns-in-Ok-write_table-clause-accepted g c = λ _.
    tells_accepted Takes g.W.Sink.state _ _ _ _ _ _ _ _ (lent_first _ _ _ c.as_slice.ensures.value c.in-Ok.ensures.first)
    c.in-Ok-judge.ensures.accepted.1 c.certificate.ensures.value c.in-Ok-judge.ensures.kept c.in-Ok-write_table.ensures

pub returns-in-Err-judge-clause-part : goal.returns-in-Err-judge-clause-part
returns-in-Err-judge-clause-part g c = λ e. elim (c.in-Err-judge.ensures.part (cc (c.status-in-Err-judge.ensures.device e))) [
  | inl same ↦ inl same
  | inr amid ↦ inr (inr (tells_refusal FailsAmid _ _ _ _ _ (lent_first _ _ _ c.as_slice.ensures.value c.in-Ok.ensures.first) amid))
]

pub returns-clause-part : goal.returns-clause-part
returns-clause-part g c = λ _. inr (inl (
    tells_accepted FailsAmid g.W.Sink.state _ _ _ _ _ _ _ _ (lent_first _ _ _ c.as_slice.ensures.value c.in-Ok.ensures.first)
    c.in-Ok-judge.ensures.accepted.1 c.certificate.ensures.value c.in-Ok-judge.ensures.kept
    c.in-Err-write_table.ensures
    ))
