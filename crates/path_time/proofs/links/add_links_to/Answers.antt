use Rattle.std.proofs.Common.{◌≡◌, Global, Vec, arith, rules, subst, sym}
use Rattle.path_time.specs.Links.{Added, IsWithin}
use Rattle.path_time.specs.declared.links.Link.{Link}
use Rattle.path_time.proofs.LinkLemmas.{added_fewer, added_next, added_none, added_one, not_next}
use Rattle.path_time.proofs.links.add_links_to.Goals.{in-Some+in_ok-push, in_default}
use Rattle.path_time.proofs.links.add_links_to.Goals as goal

pub loop-to-preserved : goal.loop-to-preserved
loop-to-preserved c =
    let s = c.args.subject.now in
    let rom = s.rom in
    let cert = s.cert in
    let from = c.args.from in
    let start = c.args.rows.start in
    let to = c.loop-to.to in
    elim c.match-cost_to.branch [
      | in-Some+in_ok-push w ↦
          added_next rom cert from start to c.args.links.now.items c.loop-to.links.items c.match-cost_to.links.items c.loop-to.invariant
          (added_one rom cert from to w.in-Some.cost c.loop-to.links.items c.match-cost_to.links.items (w.in-Some.ensures {u = tt} c.args.from c.requires.subject) (search rules))
      | in_default w ↦
          added_next rom cert from start to c.args.links.now.items c.loop-to.links.items c.match-cost_to.links.items c.loop-to.invariant
          (subst (λ (v : Vec Link Global). Added rom cert from (λ t. t ≡ to) c.loop-to.links.items v.items) (sym w.links-is)
          (added_none rom cert from (λ t. t ≡ to) c.loop-to.links.items (not_next rom cert from to c.cost_to.result (c.cost_to.ensures from c.requires.subject) w.in_default.not-Some)))
    ]

pub returns : goal.returns
returns c =
    added_fewer c.args.subject.now.rom c.args.subject.now.cert c.args.from (IsWithin c.args.rows.start c.loop-to.to) (IsWithin c.args.rows.start c.args.rows.end)
    c.args.links.now.items c.loop-to.links.items (λ to few next. (few.0, omega (arith, few.1, c.loop-to-test.false))) c.loop-to.invariant
