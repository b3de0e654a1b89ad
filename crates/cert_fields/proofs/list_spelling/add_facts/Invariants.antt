use Rattle.cert_fields.specs.Linear.{linear_text}
use Rattle.cert_fields.proofs.SpellingLemmas.{IsSpelled}
use Rattle.cert_fields.proofs.list_spelling.add_facts.Given as goal

abbrev pub invariant-loop-fact : goal.invariant-loop-fact
invariant-loop-fact l = IsSpelled linear_text 50 l.fn.line l.line l.facts l.others l.fact-index
