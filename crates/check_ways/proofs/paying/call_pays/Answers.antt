use Rattle.std.proofs.Common.{◌≡◌, Option, Some, subst, sym, ◌∙◌}
use Rattle.std.proofs.lemmas.Bool.{false≢true}
use Rattle.check_cover.specs.Program.{callee_at}
use Rattle.check_cover.specs.declared.program.Callee.{Callee}
use Rattle.check_ways.specs.Parts.{CallPays}
use Rattle.check_ways.specs.Ways.{SubjectView}
use Rattle.check_ways.proofs.paying.call_pays.Goals as goal

pub returns-then-call_is_paid : goal.returns-then-call_is_paid
returns-then-call_is_paid c =
    let s = c.args.subject.now in
    let next = c.args.next.now in
    let callee = c.in-Some.callee in
    let called : Some callee ≡ callee_at s.cert next.address =
    subst (λ (x : SubjectView). Some callee ≡ callee_at x.cert next.address) c.subject.view_is (c.in-Some.ensures {u = tt}) in (
      (λ told. subst (λ (o : Option Callee). CallPays s next o) called (c.call_is_paid.ensures.0 c.if-call_is_paid.true, c.returns_are_paid.ensures.0 told)),
      (λ pays. c.returns_are_paid.ensures.1 (subst (λ (o : Option Callee). CallPays s next o) (sym called) pays).1),
    )

pub returns-else-call_is_paid : goal.returns-else-call_is_paid
returns-else-call_is_paid c =
    let s = c.args.subject.now in
    let next = c.args.next.now in
    let callee = c.in-Some.callee in
    let called : Some callee ≡ callee_at s.cert next.address =
    subst (λ (x : SubjectView). Some callee ≡ callee_at x.cert next.address) c.subject.view_is (c.in-Some.ensures {u = tt}) in (
      (λ told. absurd (false≢true (sym c.if-call_is_paid.false ∙ told))),
      (λ pays.
          c.call_is_paid.ensures.1 (subst (λ (o : Option Callee). CallPays s next o) (sym called) pays).0),
    )
