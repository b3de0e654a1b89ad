use Rattle.std.proofs.Common.{inl, inr}
use Rattle.texts.specs.Device.{FailsAmid, Takes}
use Rattle.command_parts.proofs.FileLemmas.{hold_accepted, tells_refusal, lent_first}
use Rattle.view_commands.proofs.ViewLemmas.{at_ok, failed_from, stop_cases}
use Rattle.view_commands.proofs.viewing.view_on.Goals as goal

pub returns-in-Err-judge-clause-refused : goal.returns-in-Err-judge-clause-refused
returns-in-Err-judge-clause-refused g c = λ e.
    tells_refusal Takes _ _ _ _ _ (lent_first _ _ _ c.as_slice.ensures.value c.in-Ok.ensures.first)
    (c.in-Err-judge.ensures.refused (cc e))

pub returns-in-Err-judge-clause-shown : goal.returns-in-Err-judge-clause-shown
returns-in-Err-judge-clause-shown g c = elim (stop_cases c.in-Err-judge.stop) [
  | inl refused ↦ inr (inr (inl (
      tells_refusal Takes _ _ _ _ _ (lent_first _ _ _ c.as_slice.ensures.value c.in-Ok.ensures.first)
      (c.in-Err-judge.ensures.refused (cc refused)))))
  | inr failed ↦ elim failed [
    | inl device ↦ elim (c.in-Err-judge.ensures.part (cc device)) [
      | inl same ↦ inl same
      | inr amid ↦ inr (inr (inr (
          tells_refusal FailsAmid _ _ _ _ _ (lent_first _ _ _ c.as_slice.ensures.value c.in-Ok.ensures.first) amid)))
    ]
    | inr memory ↦ inl (c.in-Err-judge.ensures.memory (cc memory))
  ]
]

pub returns-clause-accepted : goal.returns-clause-accepted
returns-clause-accepted g c = at_ok _ _
    (hold_accepted _ _ _ _ (lent_first _ _ _ c.as_slice.ensures.value c.in-Ok.ensures.first) c.in-Ok-judge.ensures.accepted.1)

pub returns-clause-device : goal.returns-clause-device
returns-clause-device g c = λ e.
    inr (inr (failed_from g.W.Sink.state _ _ _ c.in-Ok-judge.ensures.kept (c.show.ensures.device e)))

pub returns-clause-shown : goal.returns-clause-shown
returns-clause-shown g c = inr (inl (
    hold_accepted _ _ _ _ (lent_first _ _ _ c.as_slice.ensures.value c.in-Ok.ensures.first) c.in-Ok-judge.ensures.accepted.1))
