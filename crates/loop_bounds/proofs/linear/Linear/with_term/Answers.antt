use Rattle.std.proofs.Common.{rules, FitsSigned}
use Rattle.std.specs.Int.{w32}
use Rattle.std.proofs.lemmas.Int.{to_z-of_z}
use Rattle.loop_bounds.specs.Linear.{IsLinear, extended}
use Rattle.loop_bounds.proofs.LinearLemmas.{stored_more}
use Rattle.loop_bounds.proofs.linear.Linear.with_term.Goals as goal

pub invariant_of-result : goal.invariant_of-result
invariant_of-result c =
    let fits : FitsSigned w32 c.self.inside.constant = search rules in
    let l : IsLinear (extended c.args.self c.args.term) = search rules in
    rw to_z-of_z (stored_more _ _ _ c.args.term c.self.invariant (rw (← c.self.view_is) at l))
