use Rattle.std.proofs.Common.{rules, FitsSigned}
use Rattle.std.specs.Int.{w32}
use Rattle.std.proofs.lemmas.Int.{to_z-of_z}
use Rattle.check_payments.proofs.PayingLemmas.{beside_pays, plain_pays}
use Rattle.check_payments.proofs.paying.pays_rewritten.Goals as goal

pub returns-in-Some : goal.returns-in-Some
returns-in-Some g c =
    let fits : FitsSigned w32 c.apart-rest.result.1 = search rules in
    beside_pays c.args.from.now c.args.to.now _ c.args.cost c.args.rewriting.now c.in-Some.change _ _ _ c.decreases_beside.result c.in-Some.is c.apart-rest.ensures.value c.apart-rest.ensures.absent
    (let decided = simp to_z-of_z at c.decreases_beside.ensures in decided)

pub returns-in-None : goal.returns-in-None
returns-in-None g c = plain_pays c.args.from.now c.args.to.now c.args.cost c.args.rewriting.now _ _ c.decreases.result c.in-None.is c.decreases.ensures
