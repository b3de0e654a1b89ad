use Rattle.std.proofs.Common.{◌+◌, Option, ℕ, subst, sym, take}
use Rattle.check_ways.specs.Parts.{CostsExit, IsAmong}
use Rattle.check_ways.specs.Pays.{IsGreatest}
use Rattle.check_walks.proofs.WalkLemmas.{greatest_all, greatest_more}
use Rattle.check_walks.proofs.walks.greatest_exit.Goals as goal

pub loop-next-preserved : goal.loop-next-preserved
loop-next-preserved c =
    let nexts = c.args.nexts.now in
    let k = c.loop-next.next-index in
    let tells = CostsExit in
    subst (λ (o : Option ℕ). IsGreatest (IsAmong (take (k + 1) nexts) tells) o) (sym c.greater-greatest.ensures)
    (greatest_more tells nexts k c.next-item.result c.loop-next.greatest c.cost_of_exit.result c.next-item.is c.loop-next-test.true c.loop-next.invariant
    c.cost_of_exit.ensures)

pub returns : goal.returns
returns c = greatest_all (CostsExit) c.args.nexts.now c.loop-next.next-index c.loop-next.greatest c.loop-next-test.false c.loop-next.invariant
