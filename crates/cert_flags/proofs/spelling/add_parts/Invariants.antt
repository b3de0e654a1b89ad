use Rattle.cert_fields.proofs.SpellingLemmas.{IsSpelled}
use Rattle.cert_flags.specs.Parts.{part_text}
use Rattle.cert_flags.proofs.spelling.add_parts.Given as goal

abbrev pub invariant-loop-part : goal.invariant-loop-part
invariant-loop-part l = IsSpelled part_text 51 l.fn.line l.line l.parts l.others l.part-index
