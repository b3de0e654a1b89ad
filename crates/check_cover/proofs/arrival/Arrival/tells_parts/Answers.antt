use Rattle.std.proofs.Common.{◌∙◌, ap}
use Rattle.cert_lines.specs.declared.row.Row.{Row}
use Rattle.check_cover.proofs.KnowingLemmas.{parts_told}
use Rattle.check_cover.proofs.arrival.Arrival.tells_parts.Goals as goal

pub returns-in-Some : goal.returns-in-Some
returns-in-Some c = λ t state.
    parts_told _ c.args.self.now c.tells_parts.result c.self.view_is c.in-Some.refined c.source.result c.args.row.now.parts c.parts.result.now c.in-Some.is c.source.ensures
    (c.parts.ensures.value ∙ ap (λ (row : Row). row.parts) c.row.view_is) state (c.tells_parts.ensures t state)
