use Rattle.std.proofs.Common.{◌↔◌, IsTrue, refl, subst, arith}
use Rattle.std.proofs.lemmas.Option.{slice_get_read}
use Rattle.abs_state.specs.declared.state.AbsState.{AbsState}
use Rattle.check_ways.proofs.KeptLemmas.{left_all, left_more, left_not}
use Rattle.check_ways.specs.Parts.{PaysReturn, PaysWay}
use Rattle.check_ways.specs.Ways.{WayView}
use Rattle.check_ways.proofs.paying.lefts_are_paid.Goals as goal

pub returns-then-not-pays_way : goal.returns-then-not-pays_way
returns-then-not-pays_way c =
    let s = c.args.subject.now in
    let at = slice_get_read c.args.lefts.now _ c.loop-left.left-index c.left-item.result refl c.loop-left-test.true c.left-item.is in
    let exact = subst (λ (w : WayView). IsTrue c.pays_way.result ↔ PaysWay s w) c.return_way.ensures c.pays_way.ensures in
    left_not c.args.lefts.now c.loop-left.left-index c.left-item.result (PaysReturn s c.args.next.now c.args.callee.now) c.pays_way.result at c.if-not-pays_way.true
    (subst (λ (x : AbsState). IsTrue c.pays_way.result ↔ PaysReturn s c.args.next.now c.args.callee.now x) c.state.ensures exact)

pub loop-left-preserved : goal.loop-left-preserved
loop-left-preserved c =
    let s = c.args.subject.now in
    let at = slice_get_read c.args.lefts.now _ c.loop-left.left-index c.left-item.result refl c.loop-left-test.true c.left-item.is in
    let exact = subst (λ (w : WayView). IsTrue c.pays_way.result ↔ PaysWay s w) c.return_way.ensures c.pays_way.ensures in
    left_more c.args.lefts.now c.loop-left.left-index c.left-item.result (PaysReturn s c.args.next.now c.args.callee.now) at c.loop-left.invariant
    (subst (λ (x : AbsState). PaysReturn s c.args.next.now c.args.callee.now x) c.state.ensures (exact.0 c.if-not-pays_way.false))

pub returns : goal.returns
returns c =
    left_all c.args.lefts.now c.loop-left.left-index (PaysReturn c.args.subject.now c.args.next.now c.args.callee.now)
    (let end = c.loop-left-test.false in omega arith) c.loop-left.invariant
