use Rattle.cert_fields.proofs.SpellingLemmas.{spelled_more}
use Rattle.cert_flags.specs.Parts.{part_text}
use Rattle.cert_flags.proofs.spelling.add_parts.Goals as goal

pub loop-part-preserved : goal.loop-part-preserved
loop-part-preserved c =
    spelled_more part_text 51 c.args.line.now c.args.parts.now c.in-Some.others.now c.loop-part.line c.loop-part.part-index c.loop-part.invariant c.part-item.result _ _
    c.loop-part-test.true c.part-item.is c.add_byte-in-loop-part.ensures.value c.add_part-in-loop-part.ensures.value c.add_byte-in-loop-part.ensures.grown c.add_part-in-loop-part.ensures.grown
