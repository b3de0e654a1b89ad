use Rattle.std.proofs.Common.{◌≡◌, refl, subst, Some, slice_get, arith}
use Rattle.std.proofs.lemmas.Option.{slice_get_read}
use Rattle.abs_state.specs.declared.state.AbsState.{AbsState}
use Rattle.check_tables.specs.Lefts.{IsWidened}
use Rattle.check_tables.proofs.WideLemmas.{widens_each, widens_more}
use Rattle.check_tables.proofs.widening.widen_each.Goals as goal

pub loop-left-preserved : goal.loop-left-preserved
loop-left-preserved c =
    let at : slice_get c.args.lefts.now c.loop-left.left-index ≡ Some c.left-item.result =
    slice_get_read c.args.lefts.now _ c.loop-left.left-index c.left-item.result refl c.loop-left-test.true c.left-item.is in
    widens_more c.args.lefts.now c.loop-left.left-index c.left-item.result c.args.wides.now at c.loop-left.invariant
    (subst (λ (s : AbsState). IsWidened c.args.wides.now s) c.state.ensures (c.if-not-is_widened.ensures refl))

pub returns : goal.returns
returns c = λ e.
    widens_each c.args.lefts.now c.loop-left.left-index c.args.wides.now (let end = c.loop-left-test.false in omega arith) c.loop-left.invariant
