use Rattle.std.proofs.Common.{ℕ, refl, subst, sym}
use Rattle.path_time.specs.Walks.{CostsToLeave}
use Rattle.path_time.proofs.ahead.own_exit.Goals as goal

pub returns-in-Some-clause-exit : goal.returns-in-Some-clause-exit
returns-in-Some-clause-exit c =
    (subst (λ (n : ℕ). CostsToLeave c.args.rom.now c.args.certificate.now c.args.row n) (sym c.from.ensures) (c.in-Some.ensures {u = tt}), refl)
