use Rattle.std.proofs.Common.{◌∙◌, ap}
use Rattle.cert_lines.specs.declared.row.Row.{Row}
use Rattle.check_cover.proofs.KnowingLemmas.{facts_before, facts_claimed}
use Rattle.check_cover.proofs.arrival.Arrival.knows_facts.Goals as goal

pub returns-in-None : goal.returns-in-None
returns-in-None c =
    facts_before _ c.args.self.now c.are_known.result c.self.view_is c.args.row.now.facts c.as_slice.result.now c.in-None.is
    (c.as_slice.ensures.value ∙ ap (λ (row : Row). row.facts) c.row.view_is) c.are_known.ensures

pub returns-in-Some : goal.returns-in-Some
returns-in-Some c =
    facts_claimed _ c.args.self.now c.knows_facts.result c.self.view_is c.in-Some.refined c.source.result c.args.row.now.facts c.as_slice-in-Some.result.now c.in-Some.is c.source.ensures
    (c.as_slice-in-Some.ensures.value ∙ ap (λ (row : Row). row.facts) c.row.view_is) c.knows_facts.ensures
