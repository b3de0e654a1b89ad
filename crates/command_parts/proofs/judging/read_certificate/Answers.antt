use Rattle.std.proofs.Common.{inr, refl, ◌∙◌}
use Rattle.texts.specs.Device.{FailsAmid, Takes}
use Rattle.command_parts.proofs.FileLemmas.{bad_line_of, limit_of}
use Rattle.command_parts.proofs.judging.read_certificate.Goals as goal

pub returns-in_err-put-in-Err-Line-clause-part : goal.returns-in_err-put-in-Err-Line-clause-part
returns-in_err-put-in-Err-Line-clause-part g c = λ _. inr (
    bad_line_of FailsAmid _ _ _ c.in-Err-Line.line _ (c.in-Err-Line.ensures.line _ (cc)) (c.bytes.ensures.value ∙ c.bad_line.ensures) c.in_err-put-in-Err-Line.ensures
    )

pub returns-in_ok-put-in-Err-Line-clause-refused :
    goal.returns-in_ok-put-in-Err-Line-clause-refused
returns-in_ok-put-in-Err-Line-clause-refused g c = λ _.
    bad_line_of Takes _ _ _ c.in-Err-Line.line _ (c.in-Err-Line.ensures.line _ (cc)) (c.bytes.ensures.value ∙ c.bad_line.ensures) c.in_ok-put-in-Err-Line.ensures

pub returns-in_err-put-in-Err-Limit-clause-part : goal.returns-in_err-put-in-Err-Limit-clause-part
returns-in_err-put-in-Err-Limit-clause-part g c = λ _. inr (
    limit_of FailsAmid _ _ _ _ (c.in-Err-Limit.ensures.limit (cc)) refl c.in_err-put-in-Err-Limit.ensures
    )

pub returns-in_ok-put-in-Err-Limit-clause-refused :
    goal.returns-in_ok-put-in-Err-Limit-clause-refused
returns-in_ok-put-in-Err-Limit-clause-refused g c = λ _.
    limit_of Takes _ _ _ _ (c.in-Err-Limit.ensures.limit (cc)) refl c.in_ok-put-in-Err-Limit.ensures
