use Rattle.std.proofs.Common.{◌↔◌, IsTrue, IsSomeAnd, sym, subst}
use Rattle.abs_state.specs.Variables.{range_of}
use Rattle.linear_sums.specs.Rewriting.{rewritten}
use Rattle.loop_bounds.specs.Linear.{LinearView}
use Rattle.check_claims.specs.Zeros.{less, IsZeroBy}
use Rattle.check_claims.proofs.Options.{told_of_some}
use Rattle.check_claims.proofs.telling.tells_back.Goals as goal

pub returns : goal.returns
returns c =
    let facts = c.args.facts.now in
    let box = range_of c.args.before.now in
    let negated = c.args.negated in
    let r = c.args.rewriting.now in
    let told = c.args.told.now in
    told_of_some (λ s. IsSomeAnd (rewritten r.effect r.change told) (λ t. IsZeroBy facts box (less s negated t))) _ c.in-Some.sum _ (sym c.in-Some.ensures.exact)
    (told_of_some (λ t. IsZeroBy facts box (less c.in-Some.sum negated t)) _ c.in-Some-rewritten_by.other _ (sym c.in-Some-rewritten_by.ensures.exact)
    (subst (λ (s : LinearView). IsTrue c.is_zero_by.result ↔ IsZeroBy facts box s) c.less_sum.ensures c.is_zero_by.ensures))
