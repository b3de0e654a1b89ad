use Rattle.std.proofs.Common.{◌↔◌, IsTrue, sym, subst}
use Rattle.abs_state.specs.Variables.{range_of}
use Rattle.loop_bounds.specs.Linear.{LinearView}
use Rattle.check_claims.specs.Zeros.{less, IsZeroBy}
use Rattle.check_claims.proofs.Options.{told_of_some}
use Rattle.check_claims.proofs.telling.tells_before.Goals as goal

pub returns : goal.returns
returns c =
    let facts = c.args.facts.now in
    let box = range_of c.args.before.now in
    let negated = c.args.negated in
    let told = c.args.told.now in
    told_of_some (λ s. IsZeroBy facts box (less s negated told)) _ c.in-Some.sum _ (sym c.in-Some.ensures.exact)
    (subst (λ (s : LinearView). IsTrue c.is_zero_by.result ↔ IsZeroBy facts box s) c.less.ensures c.is_zero_by.ensures)
