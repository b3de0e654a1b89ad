use Rattle.std.proofs.Common.{sym, rules, tests}
use Rattle.cert_form.specs.Form.{IsSplit}
use Rattle.cert_form.proofs.NextLemmas.{split_stands}
use Rattle.cert_form.proofs.following.split_may_follow.Goals as goal

pub returns-in-Some : goal.returns-in-Some
returns-in-Some c =
    let is : IsSplit c.args.procs c.args.split = search rules in
    let stands = split_stands c.args.procs c.args.splits.now c.in-Some.last.now c.args.split c.requires is (sym c.in-Some.ensures.value) in
    (search (rules, tests, stands.0), λ are. let above = stands.1 are in search (rules, tests, above))
