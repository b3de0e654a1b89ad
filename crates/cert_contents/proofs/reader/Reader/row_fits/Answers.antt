use Rattle.std.proofs.Common.{subst, rules}
use Rattle.cert_lines.specs.Row.{IsRow, place_of}
use Rattle.cert_form.specs.Reader.{IsProgress, MayStandAt}
use Rattle.cert_form.proofs.RowPlaces.{row_follows, row_stands}
use Rattle.cert_contents.proofs.reader.Reader.row_fits.Goals as goal

pub returns-then-row_may_follow : goal.returns-then-row_may_follow
returns-then-row_may_follow c =
    let h : IsProgress c.args.self.now = subst IsProgress c.self.view_is c.self.invariant in
    let stands : MayStandAt c.args.self.now (place_of c.args.row.now) = search rules in
    let follows = λ (form : IsRow c.args.self.now.contents.version c.args.row.now). row_follows c.args.self.now c.args.row.now h form stands in
    search (rules, follows)

pub returns-else-row_may_follow : goal.returns-else-row_may_follow
returns-else-row_may_follow c =
    let stands = row_stands c.args.self.now c.args.row.now in
    search (rules, stands)
