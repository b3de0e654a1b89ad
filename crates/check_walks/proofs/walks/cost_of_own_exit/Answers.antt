use Rattle.std.proofs.Common.{List, subst}
use Rattle.abs_step.specs.declared.next.Next.{Next}
use Rattle.check_ways.specs.Parts.{CostsExit, IsAmong}
use Rattle.check_ways.specs.Pays.{IsGreatest}
use Rattle.check_walks.proofs.WalkLemmas.{greatest_leaving}
use Rattle.check_walks.proofs.walks.cost_of_own_exit.Goals as goal

pub returns-in-Ok : goal.returns-in-Ok
returns-in-Ok c =
    greatest_leaving c.args.subject.now c.in-Ok.nexts.items c.greatest_exit.result (c.in-Ok.ensures {u = tt}).ok
    (subst (λ (ns : List Next). IsGreatest (IsAmong ns CostsExit) c.greatest_exit.result) c.as_slice.ensures c.greatest_exit.ensures)
