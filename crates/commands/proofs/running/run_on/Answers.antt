use Rattle.std.proofs.Common.{inl, inr, refl, subst}
use Rattle.texts.specs.Device.{FailsAmid, HasFailed, Takes}
use Rattle.command_parts.proofs.FileLemmas.{hold_accepted, tells_refusal, lent_first}
use Rattle.commands.proofs.PlayedLemmas.{tells_bad_input, tells_part, tells_run}
use Rattle.commands.proofs.running.run_on.Goals as goal

pub returns-in-Err-judge-clause-refused : goal.returns-in-Err-judge-clause-refused
returns-in-Err-judge-clause-refused g c = λ e. inl (
  tells_refusal Takes _ _ _ _ _ (lent_first _ _ _ c.as_slice.ensures.value c.in-Ok.ensures.first)
      (c.in-Err-judge.ensures.refused (cc (c.status-in-Err-judge.ensures.refused e))),
  refl,
)

pub returns-in-Ok-play_on-clause-run : goal.returns-in-Ok-play_on-clause-run
returns-in-Ok-play_on-clause-run g c = λ _.
    tells_run Takes g.W.Sink.state _ _ _ _ _ _ _ _ _ _ (lent_first _ _ _ c.as_slice.ensures.value c.in-Ok.ensures.first)
    c.in-Ok-judge.ensures.accepted.1 c.in-Ok-judge.ensures.accepted.0 c.in-Ok-judge.ensures.kept c.in-Ok-play_on.ensures.run

pub returns-in-Ok-play_on-clause-input_next : goal.returns-in-Ok-play_on-clause-input_next
returns-in-Ok-play_on-clause-input_next g c =
    inl (hold_accepted _ _ _ _ (lent_first _ _ _ c.as_slice.ensures.value c.in-Ok.ensures.first) c.in-Ok-judge.ensures.accepted.1)

pub returns-clause-refused : goal.returns-clause-refused
returns-clause-refused g c = λ e. inr (
    tells_bad_input Takes g.W.Sink.state _ _ _ _ _ _ _ _ _ _ (lent_first _ _ _ c.as_slice.ensures.value c.in-Ok.ensures.first)
    c.in-Ok-judge.ensures.accepted.1 c.in-Ok-judge.ensures.accepted.0 c.in-Ok-judge.ensures.kept
    (c.in-Err-play_on.ensures.bad (cc (c.status-in-Err-play_on.ensures.refused e)))
    )

pub returns-clause-input_next : goal.returns-clause-input_next
returns-clause-input_next g c =
    inl (hold_accepted _ _ _ _ (lent_first _ _ _ c.as_slice.ensures.value c.in-Ok.ensures.first) c.in-Ok-judge.ensures.accepted.1)

pub returns-clause-out_last : goal.returns-clause-out_last
returns-clause-out_last g c = elim c.play_on.ensures.last [
  | inl quiet ↦ inl quiet
  | inr part ↦ inr (tells_part Takes g.W.Sink.state _ _ _ _ _ _ _ _ _ _ _ (lent_first _ _ _ c.as_slice.ensures.value c.in-Ok.ensures.first)
      c.in-Ok-judge.ensures.accepted.1 c.in-Ok-judge.ensures.accepted.0 c.in-Ok-judge.ensures.kept part)
]

pub returns-in-Err-judge-clause-part : goal.returns-in-Err-judge-clause-part
returns-in-Err-judge-clause-part g c = λ e. elim (c.in-Err-judge.ensures.part (cc (c.status-in-Err-judge.ensures.device e))) [
  | inl same ↦ inl same
  | inr amid ↦ inr (inl (tells_refusal FailsAmid _ _ _ _ _ (lent_first _ _ _ c.as_slice.ensures.value c.in-Ok.ensures.first) amid))
]

pub returns-clause-device : goal.returns-clause-device
returns-clause-device g c = λ e. elim (c.in-Err-play_on.ensures.device (cc (c.status-in-Err-play_on.ensures.device e))) [
  | inl input ↦ inr (inr (inl input))
  | inr out ↦ inr (inr (inr (subst (λ (x : g.row.W.Denot). HasFailed (g.W.Sink.state x) (g.W.Sink.state c.play_on.new.out)) c.in-Ok-judge.ensures.kept out)))
]

pub returns-clause-part : goal.returns-clause-part
returns-clause-part g c = λ e. elim (c.in-Err-play_on.ensures.part (cc (c.status-in-Err-play_on.ensures.device e))) [
  | inl part ↦ inr (inr (inl (tells_part Takes g.W.Sink.state _ _ _ _ _ _ _ _ _ _ _ (lent_first _ _ _ c.as_slice.ensures.value c.in-Ok.ensures.first)
      c.in-Ok-judge.ensures.accepted.1 c.in-Ok-judge.ensures.accepted.0 c.in-Ok-judge.ensures.kept part)))
  | inr amid ↦ elim amid [
    | inl part ↦ inr (inr (inr (inl (tells_part FailsAmid g.W.Sink.state _ _ _ _ _ _ _ _ _ _ _ (lent_first _ _ _ c.as_slice.ensures.value c.in-Ok.ensures.first)
        c.in-Ok-judge.ensures.accepted.1 c.in-Ok-judge.ensures.accepted.0 c.in-Ok-judge.ensures.kept part))))
    | inr ends ↦ elim ends [
      | inl plays ↦ inr (inr (inr (inr (inl (tells_run FailsAmid g.W.Sink.state _ _ _ _ _ _ _ _ _ _ (lent_first _ _ _ c.as_slice.ensures.value c.in-Ok.ensures.first)
          c.in-Ok-judge.ensures.accepted.1 c.in-Ok-judge.ensures.accepted.0 c.in-Ok-judge.ensures.kept plays)))))
      | inr bad ↦ inr (inr (inr (inr (inr (tells_bad_input FailsAmid g.W.Sink.state _ _ _ _ _ _ _ _ _ _ (lent_first _ _ _ c.as_slice.ensures.value c.in-Ok.ensures.first)
          c.in-Ok-judge.ensures.accepted.1 c.in-Ok-judge.ensures.accepted.0 c.in-Ok-judge.ensures.kept bad)))))
    ]
  ]
]
