use Rattle.std.proofs.Common.{◌≡◌, ap, ◌∙◌, rules, tests}
use Rattle.cert_form.specs.Form.{place_number}
use Rattle.cert_form.proofs.LastLemmas.{bounds_all}
use Rattle.cert_form.proofs.RowPlaces.{row_place_number}
use Rattle.cert_form.proofs.following.place_may_follow.Goals as goal

pub returns-in-Some : goal.returns-in-Some
returns-in-Some c =
    let (before, last, whole, proc, address) = c.in-Some.ensures in
    let same : c.place_number.result ≡ row_place_number last =
    c.place_number.ensures ∙ ap (λ p. place_number p c.in-Some.address) proc ∙ ap (place_number last.proc) address in
    let bounds = bounds_all row_place_number c.args.rows.now before last (place_number c.args.place.proc c.args.place.address) whole c.requires in
    search (rules, tests, same, c.place_number-number.ensures, bounds)
