use Rattle.std.proofs.Common.{◌∙◌, ap}
use Rattle.cert_lines.specs.declared.row.Row.{Row}
use Rattle.check_cover.proofs.KnowingLemmas.{parts_before, parts_claimed}
use Rattle.check_cover.proofs.arrival.Arrival.knows_parts.Goals as goal

pub returns-in-None : goal.returns-in-None
returns-in-None c =
    parts_before _ c.args.self.now c.is_empty.result c.self.view_is c.args.state.now c.args.row.now.parts c.row.inside.parts.now c.in-None.is
    (ap (λ (row : Row). row.parts) c.row.view_is) c.is_empty.ensures

pub returns-in-Some : goal.returns-in-Some
returns-in-Some c =
    parts_claimed _ c.args.self.now c.knows_parts.result c.self.view_is c.in-Some.refined c.source.result c.args.state.now c.args.row.now.parts c.parts.result.now c.in-Some.is c.source.ensures
    (c.parts.ensures.value ∙ ap (λ (row : Row). row.parts) c.row.view_is) c.knows_parts.ensures
