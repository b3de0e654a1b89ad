use Rattle.std.proofs.Common.{inl, inr, refl, ◌∙◌}
use Rattle.texts.specs.Device.{FailsAmid, Takes}
use Rattle.commands.proofs.CheckLemmas.{keeps, keeps_and_tells, tells_bad, tells_unmade}
use Rattle.command_parts.proofs.FileLemmas.{lent_first}
use Rattle.commands.proofs.checking.check_on.Goals as goal

pub returns-in-Err-read_annotations-clause-refused :
    goal.returns-in-Err-read_annotations-clause-refused
returns-in-Err-read_annotations-clause-refused g c = λ e. (
  refl,
  tells_bad Takes _ _ _ (c.in-Err-read_annotations.ensures.refused (cc (c.status-in-Err-read_annotations.ensures.refused e))),
)

pub returns-in-Err-read_annotations-clause-part : goal.returns-in-Err-read_annotations-clause-part
returns-in-Err-read_annotations-clause-part g c = λ e. inl (
  refl,
  elim (c.in-Err-read_annotations.ensures.part (cc (c.status-in-Err-read_annotations.ensures.device e))) [
    | inl same ↦ inl same
    | inr amid ↦ inr (tells_bad FailsAmid _ _ _ amid)
  ],
)

pub returns-in-Err-make-clause-refused : goal.returns-in-Err-make-clause-refused
returns-in-Err-make-clause-refused g c = λ e. (
  refl,
  tells_unmade Takes g.W.Sink.state _ _ _ _ _ c.in-Ok-read_annotations.ensures.said c.in-Ok-read_annotations.ensures.kept
      (c.in-Err-make.ensures.refused (cc (c.status-in-Err-make.ensures.refused e))),
)

pub returns-in-Err-make-clause-part : goal.returns-in-Err-make-clause-part
returns-in-Err-make-clause-part g c = λ e. inl (
  refl,
  inr (
      tells_unmade FailsAmid g.W.Sink.state _ _ _ _ _ c.in-Ok-read_annotations.ensures.said c.in-Ok-read_annotations.ensures.kept
      (c.in-Err-make.ensures.part (cc (c.status-in-Err-make.ensures.device e)))
      ),
)

pub returns-in-Ok-keep_and_tell-clause-accepted : goal.returns-in-Ok-keep_and_tell-clause-accepted
returns-in-Ok-keep_and_tell-clause-accepted g c = λ _.
    keeps_and_tells Takes g.W.Sink.state _ _ _ _ _ _ _ _ _ _ _ (lent_first _ _ _ c.as_slice.ensures.value c.in-Ok.ensures.first)
    c.in-Ok-read_annotations.ensures.said c.in-Ok-make.ensures.accepted c.in-Ok-make.ensures.said c.certificate.ensures.value
    (c.in-Ok-make.ensures.kept ∙ c.in-Ok-read_annotations.ensures.kept)
    c.in-Ok-keep_and_tell.ensures.done.0 c.in-Ok-keep_and_tell.ensures.done.1

pub returns-clause-part : goal.returns-clause-part
returns-clause-part g c = λ _. elim c.in-Err-keep_and_tell.ensures.part [
  | inl unkept ↦ inr (inl (
    unkept.0 ∙ c.in-Ok-make.ensures.kept ∙ c.in-Ok-read_annotations.ensures.kept,
    keeps _ _ _ _ _ _ _ _ (lent_first _ _ _ c.as_slice.ensures.value c.in-Ok.ensures.first)
        c.in-Ok-read_annotations.ensures.said c.in-Ok-make.ensures.accepted c.in-Ok-make.ensures.said c.certificate.ensures.value unkept.1,
  ))
  | inr untold ↦ inr (inr (
      keeps_and_tells FailsAmid g.W.Sink.state _ _ _ _ _ _ _ _ _ _ _ (lent_first _ _ _ c.as_slice.ensures.value c.in-Ok.ensures.first)
      c.in-Ok-read_annotations.ensures.said c.in-Ok-make.ensures.accepted c.in-Ok-make.ensures.said c.certificate.ensures.value
      (c.in-Ok-make.ensures.kept ∙ c.in-Ok-read_annotations.ensures.kept) untold.0 untold.1
      ))
]
