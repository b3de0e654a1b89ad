use Rattle.std.proofs.Common.{ℕ, subst}
use Rattle.cert_form.specs.Form.{IsInForm}
use Rattle.check_ways.proofs.KeptLemmas.{kept_each, respects_way}
use Rattle.check_ways.proofs.TopLemmas.{pays_each_return}
use Rattle.check_ways.specs.Parts.{PaysPlace, PaysReturn, PaysWay}
use Rattle.check_ways.specs.Ways.{SubjectView, behind_of}
use Rattle.check_ways.proofs.paying.returns_are_paid.Goals as goal

pub returns-then-pays_behind : goal.returns-then-pays_behind
returns-then-pays_behind c = (
  (λ yes.
      let s = c.args.subject.now in
      pays_each_return c.args.subject.now c.args.next.now c.args.callee.now
      (subst (λ (n : ℕ). PaysPlace s s.row.proc (behind_of s.decoded s.row.address) n) c.call_cost.ensures (c.pays_behind.ensures c.if-pays_behind.true))),
  (λ all. c.if-pays_behind.true),
)

pub returns-else-pays_behind : goal.returns-else-pays_behind
returns-else-pays_behind c =
    let s = c.args.subject.now in
    let kept = c.in-Some.ensures {u = tt} in
    kept_each s c.args.callee.now.number c.in-Some.exits.now c.lefts.result.now (PaysReturn s c.args.next.now c.args.callee.now)
    c.lefts_are_paid.result (subst (λ (x : SubjectView). IsInForm x.cert) c.subject.view_is c.is_in_form.ensures) kept.0 kept.1 c.lefts.ensures
    (respects_way s c.args.next.now c.args.callee.now (PaysWay s)) c.lefts_are_paid.ensures
