use Rattle.std.proofs.Common.{sym, rules, tests}
use Rattle.cert_form.proofs.NextLemmas.{inline_stands}
use Rattle.cert_form.proofs.following.inline_may_follow.Goals as goal

pub returns-in-Some : goal.returns-in-Some
returns-in-Some c =
    let stands = inline_stands c.args.inlines.now c.in-Some.last.now c.args.address c.requires (search rules) (sym c.in-Some.ensures.value) in
    (search (rules, tests, stands.0), λ are. let above = stands.1 are in search (rules, tests, above))
