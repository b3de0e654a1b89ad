use Rattle.std.proofs.Common.{◌≡◌, ◌∙◌, ℕ, List, ap, sym, subst, rules}
use Rattle.std.specs.Result.{OnOk}
use Rattle.std.proofs.lemmas.Result.{on_ok_weaker}
use Rattle.cert_form.specs.Contents.{CertificateView}
use Rattle.check_ways.specs.Ways.{IsNumbered, nexts_from, nexts_in}
use Rattle.path_time.specs.Links.{Added, IsAny, IsArrivalOfSome}
use Rattle.path_time.proofs.LinkLemmas.{added_fewer, added_none, arrives, none_arrives}
use Rattle.path_time.proofs.links.add_links.Goals as goal

pub returns-in_default-step : goal.returns-in_default-step
returns-in_default-step c =
    let rom = c.args.rom.now in
    let cert = c.args.certificate.now in
    let s = c.in-Some.subject in
    let is : IsNumbered rom cert c.args.from s = search rules in
    added_none rom cert c.args.from IsAny c.args.links.now.items
    (λ to any next. none_arrives rom cert c.args.from s is (ap nexts_in (c.in_default-step.ensures {u = tt}).err) to next)

pub returns : goal.returns
returns c =
    let rom = c.args.rom.now in
    let cert = c.args.certificate.now in
    let s = c.in-Some.subject in
    let nexts = c.as_slice.result.now in
    let old = c.args.links.now.items in
    let new = c.add_links_by_each.new.links.items in
    let is : IsNumbered rom cert c.args.from s = search rules in
    let same : nexts_from s ≡ nexts = ap nexts_in (c.in-Ok.ensures {u = tt}).ok ∙ sym c.as_slice.ensures in
    on_ok_weaker c.add_links_by_each.result
    (added_fewer rom cert c.args.from (IsArrivalOfSome s nexts) IsAny old new (λ to any next. arrives rom cert c.args.from s nexts is same to next))
    (subst (λ (cs : CertificateView). OnOk c.add_links_by_each.result (Added rom cs c.args.from (IsArrivalOfSome s nexts) old new)) (c.in-Some.ensures.some).1
    (subst (λ (ns : List ℕ). OnOk c.add_links_by_each.result (Added ns s.cert c.args.from (IsArrivalOfSome s nexts) old new)) (c.in-Some.ensures.some).0
    c.add_links_by_each.ensures))
