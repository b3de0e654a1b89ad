use Rattle.std.proofs.Common.{inr, refl}
use Rattle.annotations.specs.Said.{NamesKeyIn}
use Rattle.annotations.specs.declared.fault.AnnotationFault.TheVariants.{Key}
use Rattle.texts.specs.Device.{FailsAmid, Takes}
use Rattle.commands.proofs.CheckLemmas.{bad_key_of, bad_text_of}
use Rattle.commands.proofs.annotating.read_annotations.Goals as goal

pub returns-in_err-put-in-Err-Text-clause-part : goal.returns-in_err-put-in-Err-Text-clause-part
returns-in_err-put-in-Err-Text-clause-part g c = λ _. inr (
    bad_text_of FailsAmid _ _ _ _ _ _ c.in-Ok.ensures.all c.as_slice.ensures.value (c.in-Err-Text.ensures.text (cc)) refl c.in_err-put-in-Err-Text.ensures
    )

pub returns-in-Err-Text-clause-refused : goal.returns-in-Err-Text-clause-refused
returns-in-Err-Text-clause-refused g c = λ _.
    bad_text_of Takes _ _ _ _ _ _ c.in-Ok.ensures.all c.as_slice.ensures.value (c.in-Err-Text.ensures.text (cc)) refl c.in_ok-put-in-Err-Text.ensures

pub returns-in_err-write_bad_key-in-Err-Key-clause-part : goal.returns-in_err-write_bad_key-in-Err-Key-clause-part
returns-in_err-write_bad_key-in-Err-Key-clause-part g c = λ _.
    let names : NamesKeyIn c.as_slice.result.now (Key c.in-Err-Key.key) = rw c.in-Err-Key.field-0-is at c.in-Err-Key.ensures.key in
    inr (bad_key_of FailsAmid _ _ _ _ _ _ _ c.in-Ok.ensures.all c.as_slice.ensures.value c.as_str.ensures.value names c.in_err-write_bad_key-in-Err-Key.ensures)

pub returns-in-Err-Key-clause-refused : goal.returns-in-Err-Key-clause-refused
returns-in-Err-Key-clause-refused g c = λ _.
    let names : NamesKeyIn c.as_slice.result.now (Key c.in-Err-Key.key) = rw c.in-Err-Key.field-0-is at c.in-Err-Key.ensures.key in
    bad_key_of Takes _ _ _ _ _ _ _ c.in-Ok.ensures.all c.as_slice.ensures.value c.as_str.ensures.value names c.in_ok-write_bad_key-in-Err-Key.ensures
