use Rattle.std.proofs.Common.{arith}
use Rattle.cert_fields.proofs.FactsLemmas.{stored_more}
use Rattle.cert_fields.proofs.facts.Facts.push.Goals as goal

pub invariant_of-self : goal.invariant_of-self
invariant_of-self c =
    let within = c.self.invariant.within in
    let other = c.if-self-eq-FACTS.false in
    stored_more _ _ _ c.self.invariant (omega arith)
