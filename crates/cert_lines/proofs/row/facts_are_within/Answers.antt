use Rattle.cert_lines.proofs.RowFacts.{facts_within, within_facts}
use Rattle.cert_lines.proofs.row.facts_are_within.Goals as goal

pub returns : goal.returns
returns c =
    let facts = c.args.facts.now in (
      λ yes. facts_within 64 c.args.slots facts c.are_facts.ensures.form (c.facts_stay_within.ensures.0 yes),
      λ form. c.facts_stay_within.ensures.1 (within_facts c.args.slots facts form),
    )
