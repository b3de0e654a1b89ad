use Rattle.std.proofs.Common.{◌↔◌, ℕ, IsTrue, subst}
use Rattle.check_ways.specs.Pays.{PaysOut}
use Rattle.check_ways.proofs.PayingLemmas.{paid_with_exit, paid_without}
use Rattle.check_ways.proofs.paying.call_is_paid.Goals as goal

pub returns-then-has_exit : goal.returns-then-has_exit
returns-then-has_exit c =
    paid_with_exit c.args.subject.now c.args.next.now c.args.callee.now (c.has_time.ensures.0 c.if-not-has_time.false) (c.has_exit.ensures.0 c.if-has_exit.true)

pub returns : goal.returns
returns c =
    let s = c.args.subject.now in
    paid_without s c.args.next.now c.args.callee.now c.has_exit.result c.row_pays_out.result (c.has_time.ensures.0 c.if-not-has_time.false) c.if-has_exit.false c.has_exit.ensures
    (subst (λ (n : ℕ). IsTrue c.row_pays_out.result ↔ PaysOut s.row n) c.call_cost.ensures c.row_pays_out.ensures)
