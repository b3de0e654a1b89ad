use Rattle.std.proofs.Common.{sym, rules, tests}
use Rattle.cert_form.specs.Form.{IsCell}
use Rattle.cert_form.proofs.NextLemmas.{cell_stands}
use Rattle.cert_form.proofs.following.cell_may_follow.Goals as goal

pub returns-in-Some : goal.returns-in-Some
returns-in-Some c =
    let is : IsCell c.args.board c.args.cell.now = search rules in
    let stands = cell_stands c.args.board c.args.cells.now c.in-Some.last.now c.args.cell.now c.requires is (sym c.in-Some.ensures.value) in
    (search (rules, tests, stands.0), λ are. let above = stands.1 are in search (rules, tests, above))
