use Rattle.std.proofs.Common.{inl, inr, refl, subst}
use Rattle.texts.specs.Device.{HasFailed, Takes}
use Rattle.command_parts.proofs.FileLemmas.{hold_accepted, tells_refusal, lent_first}
use Rattle.run_traces.proofs.watching.watch_on.Goals as goal

pub returns-in-Err-judge-clause-refused : goal.returns-in-Err-judge-clause-refused
returns-in-Err-judge-clause-refused g c = λ e. (
  refl,
  inr (tells_refusal Takes _ _ _ _ _ (lent_first _ _ _ c.as_slice.ensures.value c.in-Ok.ensures.first)
      (c.in-Err-judge.ensures.refused (cc (c.status-in-Err-judge.ensures.refused e)))),
)

pub returns-in-Ok-watch-clause-accepted : goal.returns-in-Ok-watch-clause-accepted
returns-in-Ok-watch-clause-accepted g c = λ _.
    hold_accepted _ _ _ _ (lent_first _ _ _ c.as_slice.ensures.value c.in-Ok.ensures.first) c.in-Ok-judge.ensures.accepted.1

pub returns-in-Ok-watch-clause-input_next : goal.returns-in-Ok-watch-clause-input_next
returns-in-Ok-watch-clause-input_next g c =
    inl (hold_accepted _ _ _ _ (lent_first _ _ _ c.as_slice.ensures.value c.in-Ok.ensures.first) c.in-Ok-judge.ensures.accepted.1)

pub returns-clause-refused : goal.returns-clause-refused
returns-clause-refused g c = λ e. (
  c.in-Err-watch.ensures.bad (cc (c.status-in-Err-watch.ensures.refused e)),
  inl (hold_accepted _ _ _ _ (lent_first _ _ _ c.as_slice.ensures.value c.in-Ok.ensures.first) c.in-Ok-judge.ensures.accepted.1),
)

pub returns-clause-device : goal.returns-clause-device
returns-clause-device g c = λ e. elim (c.in-Err-watch.ensures.device (cc (c.status-in-Err-watch.ensures.device e))) [
  | inl input ↦ inr (inr (inl input))
  | inr other ↦ elim other [
    | inl ram ↦ inr (inr (inr (inl ram)))
    | inr out ↦ inr (inr (inr (inr (subst (λ (x : g.row.W.Denot). HasFailed (g.W.Sink.state x) (g.W.Sink.state c.watch.new.out)) c.in-Ok-judge.ensures.kept out))))
  ]
]

pub returns-clause-input_next : goal.returns-clause-input_next
returns-clause-input_next g c =
    inl (hold_accepted _ _ _ _ (lent_first _ _ _ c.as_slice.ensures.value c.in-Ok.ensures.first) c.in-Ok-judge.ensures.accepted.1)
